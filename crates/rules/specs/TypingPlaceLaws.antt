-- The words of proofs/TypingPlaceLaws.antt.
use Rattle.std.specs.Prelude.{ℕ, suc, ◌<◌, ◌≡◌, length, take, get_or}
use mathlib.Core.List.{List}
use Rattle.std.proofs.Math.Option.{none}
use Rattle.rules.specs.Schema.{Item}
use Rattle.rules.specs.Typing.{way_type}
use Rattle.rules.specs.TypingLaws.{Types}

-- The types kept at a place are those of its parts.
pub record Ways (items : List Item) (request : ℕ) (s : List ℕ) (above : Types) : Type 0 where
  pub long : length above ≡ length s
  pub opened : 0 < length s → get_or s 0 0 ≡ request
  pub ways : (i : ℕ) → i < length s → get_or above i none ≡ way_type items (take (suc i) s)
