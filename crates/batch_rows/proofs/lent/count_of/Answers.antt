-- `batch_rows::lent::count_of` meets its contract: only a reply that is done tells of rows.
use Prim.Native.Nat.{ℕ, ◌≤◌, ◌<◌}
use mathlib.Core.Path.{◌≡◌, refl, sym, ap, ◌∙◌}
use mathlib.Core.Bool.{Bool, cond}
use borrow.Author.Tests.{le-leb, lt-leb}
use Rattle.std.specs.Prelude.{Ok, Err}
use Rattle.load_state.specs.declared.LoadCounts.{LoadCounts}
use Rattle.load_state.specs.LoadReplies.{LoadReply}
use Rattle.batch_rows.specs.Rows.{count_of, at_most}
use Rattle.batch_rows.proofs.lent.count_of.Goals as goal

-- a refusal tells of none
none_told : (told : LoadReply) → ((counts : LoadCounts) → told ≡ Ok counts → ⊥) → 0 ≡ at_most 4096 (count_of told)
none_told (Ok counts) other = absurd (other counts refl)
none_told (Err refusal) other = refl

-- a reply that is done tells of its count, within the rows of a batch
some-told : (told : LoadReply) (counts : LoadCounts) → told ≡ Ok counts → counts.count ≤ 4096 → counts.count ≡ at_most 4096 (count_of told)
some-told told counts is few =
    sym (ap (λ (r : LoadReply). at_most 4096 (count_of r)) is ∙ ap (λ (t : Bool). cond t counts.count 4096) (le-leb counts.count 4096 few))

most-told : (told : LoadReply) (counts : LoadCounts) → told ≡ Ok counts → 4096 < counts.count → 4096 ≡ at_most 4096 (count_of told)
most-told told counts is many =
    sym (ap (λ (r : LoadReply). at_most 4096 (count_of r)) is ∙ ap (λ (t : Bool). cond t counts.count 4096) (lt-leb counts.count 4096 many))

pub returns-in_default : goal.returns-in_default
returns-in_default c = none_told c.args.reply c.in_default.not-Ok

pub returns-then-counts-le4096 : goal.returns-then-counts-le4096
returns-then-counts-le4096 c = some-told _ _ c.in-Ok.is c.if-counts-le4096.true

pub returns-else-counts-le4096 : goal.returns-else-counts-le4096
returns-else-counts-le4096 c = most-told _ _ c.in-Ok.is c.if-counts-le4096.false
