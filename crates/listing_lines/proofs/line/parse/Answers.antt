-- `listing_lines::line::parse` meets its contract: what is read begins with A or N and a tab, and what stands behind goes on with the line.
use native.Mathlib.Omega.{arith}
use Prim.Native.Nat.{◌+◌, ◌<◌}
use lib.ListN.{length, get_or}
use mathlib.Core.List.{[]}
use mathlib.Core.Logic.{⊎_elim}
use mathlib.Core.Path.{◌≡◌, refl, sym, ◌∙◌}
use Rattle.rules.specs.Text.{TAB}
use Rattle.listing_lines.specs.LineLaws.{left_length, left_first, left_second, row_letter, row_begins}
use Rattle.listing_lines.proofs.line.parse.Goals as goal
use Rattle.listing_lines.proofs.line.parse.Goals.{In-len2-up, Else-tab-ne-TAB}

-- there are two bytes, the second a tab
inside : (c : In-len2-up) → c.args.at + 1 < length c.args.text.now
inside c = omega (arith, c.in-len2-up.len_at_least, left_length c.args.text.now c.args.at refl)

tab_behind : (c : Else-tab-ne-TAB) → get_or c.args.text.now (c.args.at + 1) 0 ≡ TAB
tab_behind c = sym (left_second c.args.text.now c.args.at refl) ∙ c.if-tab-ne-TAB.false

pub returns-in_default : goal.returns-in_default
returns-in_default c =
    let a = c.args in
    sym (row_begins a.text.now a.at λ two tab first. omega (arith, c.in_default.len_below, left_length a.text.now a.at refl))

pub returns-then-tab-ne-TAB : goal.returns-then-tab-ne-TAB
returns-then-tab-ne-TAB c =
    let a = c.args in
    sym (row_begins a.text.now a.at λ two tab first. c.if-tab-ne-TAB.true (left_second a.text.now a.at refl ∙ tab))

pub returns-in-65 : goal.returns-in-65
returns-in-65 c =
    let a = c.args in
    c.entry.ensures
    ∙ sym (row_letter [] a.text.now a.at (omega arith) (omega arith) (inside (goal.at.returns-in-65 c).In-len2-up)
    (tab_behind (goal.at.returns-in-65 c).Else-tab-ne-TAB) (sym (left_first a.text.now a.at refl) ∙ c.in-65.is))

pub returns-in-78 : goal.returns-in-78
returns-in-78 c =
    let a = c.args in
    c.node.ensures
    ∙ sym (row_letter [] a.text.now a.at (omega arith) (omega arith) (inside (goal.at.returns-in-78 c).In-len2-up)
    (tab_behind (goal.at.returns-in-78 c).Else-tab-ne-TAB) (sym (left_first a.text.now a.at refl) ∙ c.in-78.is))

pub returns-in_default-letter : goal.returns-in_default-letter
returns-in_default-letter c =
    let a = c.args in
    let same = left_first a.text.now a.at refl in
    sym (row_begins a.text.now a.at λ two tab first. ⊎_elim (λ e. omega arith) (λ e. omega arith) first)
