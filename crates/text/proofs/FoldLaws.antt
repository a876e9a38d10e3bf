-- Laws of a text that is read line after line (`rules`, Lines), from a place on: what a loop over its lines cites. No contract cites this file.
use Prim.Native.Nat.{ℕ, ◌+◌, ◌≤◌, ◌<◌}
use native.Mathlib.Omega.{arith}
use mathlib.Core.List.{List, [], ◌∷◌}
use mathlib.Core.Path.{◌≡◌, refl, ◌∙◌}
use lib.ListN.{length, drop, drop_of_length-le, length-drop}
use Rattle.rules.specs.Numbers.{Answer, accepted, refused}
use Rattle.rules.specs.Text.{lines_of}
use Rattle.rules.specs.Lines.{folded, fold_lines}
use Rattle.rules.proofs.LineLaws.{fold_end, fold_cut, fold_next, fold_refused}
use Rattle.text.proofs.Laws.{LineTo}

-- The lines from a place on, the first of a number, came to a state at a later place: the others go on from it.
pub record CameFrom {S : Type 0} (step : ℕ → List ℕ → S → Answer S) (from first : ℕ) (start : S) (text : List ℕ) (at lines : ℕ) (s : S) : Type 0 where
  pub inside : at ≤ length text
  pub lines_passed : lines ≤ at
  pub left : fold_lines step first (lines_of (drop from text)) start ≡ fold_lines step lines (lines_of (drop at text)) s

pub came_here : {S : Type 0} (step : ℕ → List ℕ → S → Answer S) (from first : ℕ) (start : S) (text : List ℕ) →
    from ≤ length text → first ≤ from → CameFrom step from first start text from first start
came_here step from first start text inside few = record { inside = inside; lines_passed = few; left = refl }

-- so many lines of a text came to a state
abbrev pub CameTo : {S : Type 0} → (ℕ → List ℕ → S → Answer S) → S → List ℕ → ℕ → ℕ → S → Type 0
CameTo step start text at lines s = CameFrom step 0 0 start text at lines s

pub came_start : {S : Type 0} (step : ℕ → List ℕ → S → Answer S) (start : S) (text : List ℕ) → CameTo step start text 0 0 start
came_start step start text = came_here step 0 0 start text (omega arith) (omega arith)

module _ {S : Type 0} {step : ℕ → List ℕ → S → Answer S} {from first : ℕ} {start : S} {text : List ℕ} {at lines : ℕ} {s : S}
    (came : CameFrom step from first start text at lines s) where
  -- no line is left
  pub came_end : length text ≤ at → fold_lines step first (lines_of (drop from text)) start ≡ accepted (folded lines s)
  came_end h = came.left ∙ rw (drop_of_length-le text h) (fold_end step lines s)

  -- what is left has no LF
  pub came_cut : at < length text → lines_of (drop at text) ≡ drop at text ∷ [] →
      fold_lines step first (lines_of (drop from text)) start ≡ refused 1 lines
  came_cut more alone = came.left ∙ rw alone (fold_cut step lines s (drop at text) (omega (arith, length-drop at text)))

  module _ {end : ℕ} {line : List ℕ} (to : LineTo text at end line) where
    -- the next line is refused
    pub came_refused : {number place : ℕ} → step lines line s ≡ refused number place →
        fold_lines step first (lines_of (drop from text)) start ≡ refused number place
    came_refused e = came.left ∙ rw to.first (fold_refused step lines s line (drop (end + 1) text) e)

    -- the next line is taken
    pub came_next : {after : S} → step lines line s ≡ accepted after → CameFrom step from first start text (end + 1) (lines + 1) after
    came_next e = record {
      inside = omega (arith, to.within);
      lines_passed = omega (arith, came.lines_passed, to.ends);
      left = came.left ∙ rw to.first (fold_next step lines s line (drop (end + 1) text) e);
    }
