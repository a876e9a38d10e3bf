-- `answers::front_answer` meets its contract: an absent entity takes its head alone, and the test of an entity decides otherwise.
use Prim.Native.Nat.{◌+◌}
use Rattle.std.specs.Prelude.{Some, None}
use native.Mathlib.Omega.{arith}
use mathlib.Core.Path.{◌≡◌, sym, ap}
use mathlib.Core.Bool.{cond}
use lib.ListN.{get_or, length-take, length-drop}
use Rattle.answers.specs.Answers.{front_of, answer_at, words_behind}
use Rattle.answers.specs.AnswerLaws.{nothing_at, front_absent, front_entity}
use Rattle.answers.specs.declared.Lending.TheVariants.{Answers}
use Rattle.answers.proofs.front_answer.Goals as goal
use Rattle.answers.proofs.front_answer.Goals.{After-is_entity}

pub returns-then-words-eq0 : goal.returns-then-words-eq0
returns-then-words-eq0 c = sym (ap front_of (nothing_at Answers c.args.words.now c.if-words-eq0.true))

pub returns-then-word-eq0 : goal.returns-then-word-eq0
returns-then-word-eq0 c = sym (front_absent c.args.words.now (omega arith) c.if-word-eq0.true)

pub is_entity-requires : goal.is_entity-requires
is_entity-requires c = (
  rw c.from-head.ensures (omega (arith, c.shared_slice_known-2-1.given 0)),
  simp (length-take, length-drop) (omega (arith, c.requires, c.if-words-eq0.false)),
)

-- what the test of an entity says of the words
entity :
    (c : After-is_entity) →
    front_of (answer_at c.args.words.now) ≡ cond c.is_entity.result (Some (1 + words_behind Answers (get_or c.args.words.now 0 0))) None
entity c =
    front_entity c.args.words.now c.is_entity.result (omega arith) c.if-word-eq0.false
    (sym (rw c.from-head.ensures at c.is_entity.ensures))

pub returns-then-not-is_entity : goal.returns-then-not-is_entity
returns-then-not-is_entity c =
    sym (rw (c.if-not-is_entity.true) at (entity (goal.at.returns-then-not-is_entity c).After-is_entity))

pub overflow_add-result : goal.overflow_add-result
overflow_add-result c =
    rw c.behind.ensures (omega (arith, c.shared_slice_known-2-1.given 0))

pub returns : goal.returns
returns c =
    rw c.behind.ensures (sym (rw (c.if-not-is_entity.false) at (entity (goal.at.returns c).After-is_entity)))
