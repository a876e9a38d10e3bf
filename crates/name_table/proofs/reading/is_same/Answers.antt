-- `name_table::reading::is_same` meets its contract: kinds, lengths and bytes are compared in turn.
use native.Mathlib.Omega.{arith}
use lib.ListN.{length}
use borrow.Author.Tests.{lt-leb}
use Rattle.std.specs.Str.{bytes_eq}
use Rattle.rules.specs.Names.{name_in}
use mathlib.Core.Path.{◌≡◌, sym, ap, ◌∙◌}
use Prim.Native.Nat.{ℕ, ◌+◌, ◌/◌}
use native.Mathlib.Nat.{add-sub_cancel_left}
use Rattle.name_table.specs.Words.{named_in}
use Rattle.name_table.specs.NameLaws.{other_kind, other_size, other_end, same_bytes}
use Rattle.name_table.proofs.reading.is_same.Goals as goal
use Rattle.name_table.proofs.reading.is_same.Goals.{Else-named-kind, Else-named-name}

-- it is of the kind, and as long
of_kind : (c : Else-named-kind) → (named_in c.args.word).key / 65536 ≡ c.args.kind
of_kind c = ap (λ (n : ℕ). n / 65536) (sym c.of-named.ensures.key) ∙ c.if-named-kind.false

as_long : (c : Else-named-name) → (named_in c.args.word).size ≡ length c.args.name.now
as_long c = sym c.of-named.ensures.size ∙ c.if-named-name.false

pub returns-then-named-kind : goal.returns-then-named-kind
returns-then-named-kind c =
    let a = c.args in
    sym (other_kind a.text.now a.kind a.name.now (named_in a.word) (λ e. c.if-named-kind.true (ap (λ (n : ℕ). n / 65536) c.of-named.ensures.key ∙ e)))

pub returns-then-named-name : goal.returns-then-named-name
returns-then-named-name c =
    let a = c.args in
    sym (other_size a.text.now a.kind a.name.now (named_in a.word) (of_kind (goal.at.returns-then-named-name c).Else-named-kind) (λ e. c.if-named-name.true (c.of-named.ensures.size ∙ e)))

pub returns-else-to-text : goal.returns-else-to-text
returns-else-to-text c =
    let a = c.args in
    let there = goal.at.returns-else-to-text c in
    let m = c.of-named.result in
    rw (lt-leb (m.from + m.size) (length a.text.now) c.if-to-text.false)
    (sym
    (other_end a.text.now a.kind a.name.now (named_in a.word) (of_kind there.Else-named-kind) (as_long there.Else-named-name) c.requires
    (omega (arith, c.if-to-text.false, c.of-named.ensures))))

pub returns-then-to-text : goal.returns-then-to-text
returns-then-to-text c =
    let a = c.args in
    let there = goal.at.returns-then-to-text c in
    let m = c.of-named.result in
    let same : c.eq.result ≡ bytes_eq (name_in a.text.now (named_in a.word)) a.name.now =
    rw (add-sub_cancel_left m.from m.size, c.of-named.ensures.from, c.of-named.ensures.size) at c.eq.ensures in
    same_bytes a.text.now a.kind a.name.now (named_in a.word) (of_kind there.Else-named-kind) (as_long there.Else-named-name) _ same
