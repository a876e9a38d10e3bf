-- What an analysis accepts is a lawful contribution: `analyse_lawful`. `line_keeps` and `ended_lawful` say it of one line and of the end.
-- No contract cites this file.
use Rattle.std.specs.Prelude.{ℕ, zero, suc, ◌^◌, ◌≤◌, ◌<◌, ◌≡◌, refl, true, false, List, [], ◌∷◌, ◌++◌, length, take, get_or}
use Rattle.std.proofs.Common.{sym, ap, lt-ltb, le-leb}
use Rattle.std.proofs.lemmas.Bool.{eqb-false}
use Rattle.rules.specs.Numbers.{accepted}
use Rattle.rules.specs.Text.{lines_of, fields_of}
use Rattle.rules.specs.Facts.{by_option, accepted_same, then_accepted}
use Rattle.rules.proofs.LineLaws.{fold_kept}
use Rattle.rules.specs.Tries.{Row, ids, ordered, count, entries_in, nodes_in, contribution, lawful}
use Rattle.rules.proofs.TrieLaws.{Ordered, ordered_true, true_ordered}
use Rattle.rules.specs.Listing.{read}
use Rattle.rules.proofs.ListingLaws.{refused_not}
use Rattle.rules.specs.Schema.{Item}
use Rattle.rules.specs.Steps.{Result, step_from, stepped, step_line, run, ended, analyse}
use Rattle.rules.proofs.StepLaws.{Each, Plain, IsTrie, AllGood, GoodSchema, step_good, apply_good}

-- ---- a trie behind an entry

-- below the first step the first step makes no difference
module _ (a b : ℕ) (s : List ℕ) where
  take_front : (d : ℕ) → (d ≡ 0 → ⊥) → (t : List ℕ) × (take d (a ∷ s) ≡ a ∷ t) × (take d (b ∷ s) ≡ b ∷ t)
  take_front zero h = absurd (h refl)
  take_front (suc d) h = (take d s, refl, refl)

  get_d_front : (d : ℕ) → (d ≡ 0 → ⊥) → get_or (a ∷ s) d 0 ≡ get_or (b ∷ s) d 0
  get_d_front zero h = absurd (h refl)
  get_d_front (suc d) h = refl

-- nodes in order behind one entry are in order behind another
behind_another : (a b : ℕ) (s : List ℕ) (rows : List Row) → Each Plain rows → Ordered (a ∷ s) rows → Ordered (b ∷ s) rows
unfolding Each Ordered
behind_another a b s [] plain o = tt
behind_another a b s (row ∷ rows) (one, plain) (whole, follows, near, rest) =
    let node : row.depth ≡ 0 → ⊥ = eqb-false row.depth 0 one.node in
    let (t, front-a, front-b) = take_front a b s row.depth node in
    let behind : Ordered (a ∷ (t ++ (row.step ∷ []))) rows = rw front-a at rest in
    let then : Ordered (b ∷ (t ++ (row.step ∷ []))) rows = behind_another a b (t ++ (row.step ∷ [])) rows plain behind in (
      whole,
      record { near = follows.near; past = λ h. rw (sym (get_d_front a b s row.depth node)) (follows.past h) },
      near,
      rw front-b then,
    )

-- all of them are nodes
only_nodes : (rows : List Row) → Each Plain rows → (entries_in rows ≡ 0) × (nodes_in rows ≡ length rows)
unfolding Each count
only_nodes [] plain = (refl, refl)
only_nodes (row ∷ rows) (one, plain) =
    let (entries, nodes) = only_nodes rows plain in
    rw one.node (entries, ap suc nodes)

-- an entry and a trie behind it are a contribution
entry_lawful :
    (request : ℕ) (trie : List Row)
    → request < ids ^ 3
    → IsTrie trie
    → length trie ≤ 1024
    → lawful contribution (read 0 request false ∷ trie) ≡ true
unfolding ordered count
entry_lawful request trie small t few =
    let order : ordered (request ∷ []) trie ≡ true =
    true_ordered (request ∷ []) trie (behind_another 0 request [] trie t.plain (ordered_true (0 ∷ []) trie t.order)) in
    let (entries, nodes) = only_nodes trie t.plain in
    simp (lt-ltb request (ids ^ 3) small, order, entries, nodes, le-leb (length trie) 1024 few)

-- ---- a step text

-- a line that is accepted leaves good results
pub line_keeps :
    (items : List Item) → GoodSchema items → (place : ℕ) (line : List ℕ) (stack after : List Result)
    → AllGood stack
    → step_line items place line stack ≡ accepted after
    → AllGood after
line_keeps items schema place line stack after good e =
    by_option (step_from (fields_of line))
    (λ q. refused_not 1 place after (rw (q, stepped) at e))
    (λ step q. apply_good items schema place step (step_good (fields_of line) step q) stack after good (rw (q, stepped) at e))

-- good results at the end give a lawful contribution
pub ended_lawful :
    (request lines : ℕ) (stack : List Result) {rows : List Row}
    → request < ids ^ 3
    → AllGood stack
    → ended request lines stack ≡ accepted rows
    → lawful contribution rows ≡ true
unfolding Each
ended_lawful request lines [] {rows} small good e = refused_not 6 lines rows e
ended_lawful request lines (top ∷ []) {rows} small good e =
    rw (sym (accepted_same _ rows e)) (entry_lawful request top.trie small good.0.good_trie good.0.few_rows)
ended_lawful request lines (top ∷ next ∷ stack) {rows} small good e = refused_not 6 lines rows e

-- What `analyse` accepts is a lawful contribution.
pub analyse_lawful :
    (items : List Item) → GoodSchema items → (request : ℕ) → request < ids ^ 3 → (text : List ℕ) (rows : List Row)
    → analyse items request text ≡ accepted rows
    → lawful contribution rows ≡ true
unfolding Each
analyse_lawful items schema request small text rows e =
    let (all, ran, given) = then_accepted (run items text) (λ all. ended request all.lines all.state) e in
    ended_lawful request all.lines all.state small (fold_kept (step_line items) AllGood (line_keeps items schema) (lines_of text) 0 [] tt ran) given
