-- Laws of a scan that passes row after row. No contract cites this file.
use Rattle.std.specs.Prelude.{ℕ, suc, ◌+◌, ◌≤◌, ◌<◌, ◌≡◌, Bool, cond, not, List, [], ◌∷◌, map, length, drop, get_or}
use Rattle.std.proofs.Common.{add-one, arith, sym, ◌∙◌, drop-cons}
use Rattle.std.proofs.Math.Path.{refl}
use Rattle.std.proofs.Math.Bool.{true, false}
use Rattle.std.proofs.Math.Option.{none, some}
use borrow.Author.Tests.{lt-ltb, le-ltb, le-leb, lt-leb, eq-eqb, ne_eqb}
use Rattle.rules.specs.Tries.{Row, kind_of}
use Rattle.rules.specs.ValueRows.{ValueRow}
use Rattle.rules.specs.Listing.{◌>>=◌}
use Rattle.rules.specs.Loading.{ancestor, has_child}
use Rattle.rules.specs.WalkRows.{ids_at}
use Rattle.rules.proofs.WalkRowLaws.{ids_above, ids_deeper, ids_entity, ids_other}
use Rattle.row_walk.specs.RowWalks.{child_test, ancestors_at, ids_if_held}

-- the words from a place on are that word and those behind it, as rows of either kind
pub rows_left :
    {A : Type 0} (row_in : ℕ → A) (words : List ℕ) (i : ℕ)
    → i < length words
    → map row_in (drop i words) ≡ row_in (get_or words i 0) ∷ map row_in (drop (i + 1) words)
rows_left row_in words i h = rw (add-one, drop-cons words i 0)

-- ---- a node's children

-- a step below 65,536 is a field, and any other a root
pub child_field : (fields : Bool) (step : ℕ) → step < 65536 → fields ≡ child_test fields step
child_field true step h = sym (eq-eqb (kind_of step) 0 (omega arith))
child_field false step h = rw (eq-eqb (kind_of step) 0 (omega arith))

pub child_root : (fields : Bool) (step : ℕ) → 65536 ≤ step → not fields ≡ child_test fields step
child_root true step h = sym (ne_eqb (kind_of step) 0 (λ e. omega arith))
child_root false step h = rw (ne_eqb (kind_of step) 0 (λ e. omega arith))

module _ (test : ℕ → Bool) (depth : ℕ) (row : Row) (rows : List Row) where
  pub child_above : row.depth ≤ depth → has_child test depth (row ∷ rows) ≡ false
  unfolding has_child
  child_above h = rw (le-leb row.depth depth h)

  module _ (below : depth < row.depth) where
    pub child_here : row.depth ≡ suc depth → test row.step ≡ true → has_child test depth (row ∷ rows) ≡ true
    unfolding has_child
    child_here e is = rw (lt-leb row.depth depth below, eq-eqb row.depth (suc depth) e, is)

    pub child_other : row.depth ≡ suc depth → test row.step ≡ false → has_child test depth (row ∷ rows) ≡ has_child test depth rows
    unfolding has_child
    child_other e is = rw (lt-leb row.depth depth below, eq-eqb row.depth (suc depth) e, is)

    pub child_deeper : (row.depth ≡ suc depth → ⊥) → has_child test depth (row ∷ rows) ≡ has_child test depth rows
    unfolding has_child
    child_deeper e = rw (lt-leb row.depth depth below, ne_eqb row.depth (suc depth) e)

-- ---- the elements of a set

-- whether the ids of rows are held is what the test says
abbrev pub IdsHeld : Bool → ℕ → List ValueRow → Type 0
IdsHeld held depth rows = ids_at depth rows ≡ ids_if_held held depth rows

pub held_end : (depth : ℕ) → IdsHeld true depth []
unfolding ids_at ancestors_at
held_end depth = refl

module _ (depth : ℕ) (x : ValueRow) (rows : List ValueRow) where
  -- a row above the elements ends them
  pub held_above : x.depth < depth → IdsHeld true depth (x ∷ rows)
  unfolding ancestors_at
  held_above h = ids_above depth x rows h ∙ rw lt-ltb

  -- an element that is no entity id
  pub held_other : x.depth ≡ depth → (x.kind ≡ 2 → ⊥) → IdsHeld false depth (x ∷ rows)
  held_other e k = ids_other depth x rows e k

  module _ (held : Bool) (behind : IdsHeld held depth rows) where
    -- a row inside an element
    pub held_deeper : depth < x.depth → IdsHeld held depth (x ∷ rows)
    unfolding ancestors_at
    held_deeper h = ids_deeper depth x rows h ∙ rw (behind, le-ltb x.depth depth (omega arith), ne_eqb x.depth depth (λ z. omega arith))

    -- an element that is one
    pub held_entity : x.depth ≡ depth → x.kind ≡ 2 → IdsHeld held depth (x ∷ rows)
    unfolding ancestors_at
    held_entity e k = ids_entity depth x rows e k ∙ rw (behind, le-ltb x.depth depth (omega arith), eq-eqb x.depth depth e) (go held)
      where
        go : (held : Bool) → (ids_if_held held depth rows >>= (λ ids. some (ancestor x.number ∷ ids))) ≡ (cond held (some (ancestor x.number ∷ ancestors_at depth rows)) none)
        go true = refl
        go false = refl
