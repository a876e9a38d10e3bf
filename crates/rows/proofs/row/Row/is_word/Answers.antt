-- `rows::row::Row::is_word` meets its contract: its tests are those that `is_word` asks of an entry's word and of a node's.
use Prim.Native.Nat.{◌/◌, ◌%◌, ◌^◌, ◌<◌, ◌≤◌}
use mathlib.Core.Path.{◌≡◌}
use mathlib.Core.Bool.{cond, and-true, and-false}
use borrow.Author.Tests.{lt-ltb, le-ltb, le-leb, lt-leb, eq-eqb, ne_eqb}
use lib.Dec.{eqb}
use native.Mathlib.Omega.{arith}
use Rattle.rules.specs.Facts.{compared}
use Rattle.rules.specs.Tries.{is_root, is_step}
use Rattle.rows.specs.Words.{step_in, is_word}
use Rattle.rows.specs.WordLaws.{entry_word, node-word}
use Rattle.rows.proofs.row.Row.is_word.Goals as goal
use Rattle.rows.proofs.row.Row.is_word.Goals.{Else-word-gt-TYPES}

pub returns-then-step-lt281474976710656 : goal.returns-then-step-lt281474976710656
returns-then-step-lt281474976710656 c =
    let entry : c.args.self.word % 32 ≡ 0 = c.if-word-eq0.true in
    let small : step_in c.args.self.word < 2 ^ 48 = rw c.step-step.ensures at c.if-step-lt281474976710656.true in
    rw (entry_word c.args.self.word entry, lt-ltb (step_in c.args.self.word) (2 ^ 48) small, c.is_marked.ensures)

pub returns-then-word-eq0 : goal.returns-then-word-eq0
returns-then-word-eq0 c =
    let entry : c.args.self.word % 32 ≡ 0 = c.if-word-eq0.true in
    let large : 2 ^ 48 ≤ step_in c.args.self.word = rw c.step-step.ensures at c.if-step-lt281474976710656.false in
    rw (entry_word c.args.self.word entry, le-ltb (step_in c.args.self.word) (2 ^ 48) large)

pub returns-then-word-gt-TYPES : goal.returns-then-word-gt-TYPES
returns-then-word-gt-TYPES c =
    let large : 1026 < c.args.self.word / 2 ^ 25 = c.if-word-gt-TYPES.true in
    rw (node-word c.args.self.word c.if-word-eq0.false)
    (compared c.args.self.word (2 ^ 36)
    (λ low. rw (lt-leb (c.args.self.word / 2 ^ 25 % 2 ^ 11) 1026 (omega (arith, low, large))) (simp and-false))
    (λ high. rw (le-ltb c.args.self.word (2 ^ 36) high, and-false)))

-- all but the step of a node's word is good
node_step :
    (c : Else-word-gt-TYPES) →
    is_word c.args.self.word ≡ cond (eqb (c.args.self.word % 32) 1) (is_root (step_in c.args.self.word)) (is_step (step_in c.args.self.word))
node_step c =
    let small : c.args.self.word / 2 ^ 25 ≤ 1026 = c.if-word-gt-TYPES.false in
    rw (
      node-word c.args.self.word c.if-word-eq0.false,
      le-leb (c.args.self.word / 2 ^ 25 % 2 ^ 11) 1026 (omega (arith, small)),
      lt-ltb c.args.self.word (2 ^ 36) (omega (arith, small)),
    )
    (simp and-true)

pub returns-then-word-eq1 : goal.returns-then-word-eq1
returns-then-word-eq1 c =
    rw (node_step (goal.at.returns-then-word-eq1 c).Else-word-gt-TYPES, eq-eqb (c.args.self.word % 32) 1 c.if-word-eq1.true) (rw c.step-step.ensures at c.is_root.ensures)

pub returns : goal.returns
returns c =
    rw (node_step (goal.at.returns c).Else-word-gt-TYPES, ne_eqb (c.args.self.word % 32) 1 c.if-word-eq1.false) (rw c.step-step.ensures at c.is_step.ensures)
