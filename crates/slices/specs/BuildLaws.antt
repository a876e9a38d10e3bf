-- Laws of a slice that is written entity by entity. No contract cites this file.
use Rattle.std.specs.Prelude.{ℕ, suc, ◌+◌, ◌%◌, ◌≤◌, ◌<◌, ◌≡◌, ◌≢◌, cond, List, [], ◌∷◌, ◌++◌, map, ltb, eqb, length, get_or}
use Rattle.std.proofs.Common.{add-one, arith, ap, ◌∙◌, append_assoc, append-nil, length-append, lt-ltb, le-ltb, eq-eqb, ne_eqb, eqb-true, subst}
use Rattle.std.proofs.Math.Path.{refl, sym}
use Rattle.std.proofs.Math.Option.{Option, none, some, none-ne-some, some-ne-none, some-injective}
use Rattle.std.proofs.Math.Seq.{append_snoc}
use Rattle.rules.specs.Facts.{by_test, by_option, compared}
use Rattle.rules.specs.Values.{Entity}
use Rattle.rules.proofs.MergeLaws.{merged_of}
use Rattle.rules.specs.Loading.{EntityRequest, Loaded, loaded, loaded_as, with_ancestors}
use Rattle.rules.proofs.SliceLaws.{answers_to, SliceFrom, SliceOf, ids_to, with_more, ancestors_loaded, ancestors_ascend, before_first}
use Rattle.words.specs.Runs.{Wrote}
use Rattle.words.specs.RunLaws.{wrote_more}
use Rattle.slices.specs.Slices.{
  rows_asked,
  answers_in,
  entity_words,
  slice_words,
  sets_in,
  answer_size,
  total,
  words_of_all,
  SliceFit,
  WroteSlice,
  Heard,
  answers_for,
  ids_for,
}
use Rattle.slices.specs.Keys.{places_of, GroupEnds}
use Rattle.slices.specs.GroupLaws.{
  sorted_keys,
  entities_ascend,
  none_answers,
  group,
  behind_greater,
  group_answers,
  group_ids,
  group_heard,
  group_sets,
}
use Rattle.slices.specs.Writing.{entity_sizes, words_for, EntityFit, EntityWritten}

-- ---- entities from one on

unfoldable pub entities_from : ℕ → List Loaded → List Loaded
entities_from least [] = []
entities_from least (l ∷ ls) = let rest : List Loaded = entities_from least ls in cond (ltb l.id least) rest (l ∷ ls)

pub all_from : (least : ℕ) (slice : List Loaded) → SliceFrom least slice → entities_from least slice ≡ slice
unfolding SliceFrom entities_from
all_from least [] h = refl
all_from least (l ∷ ls) h = rw (le-ltb l.id least h.0)

pub loaded_other : (l : Loaded) (ls : List Loaded) (x : ℕ) → (l.id ≡ x → ⊥) → loaded_as x (l ∷ ls) ≡ loaded_as x ls
unfolding loaded_as
loaded_other l ls x other = rw (ne_eqb l.id x other)

pub loaded_own : (l : Loaded) (ls : List Loaded) (x : ℕ) → l.id ≡ x → loaded_as x (l ∷ ls) ≡ some l.value
unfolding loaded_as
loaded_own l ls x own = rw (eq-eqb l.id x own)

none_loaded : (x : ℕ) → loaded_as x [] ≡ none
unfolding loaded_as
none_loaded x = refl

-- the first of them, where none is before it
first_from :
    (least e : ℕ) (value : Entity) (slice : List Loaded) (bound : ℕ)
    → SliceFrom bound slice
    → least ≤ e
    → loaded_as e slice ≡ some value
    → ((x : ℕ) → least ≤ x → x < e → loaded_as x slice ≡ none)
    → entities_from least slice ≡ loaded e value ∷ entities_from (suc e) slice
unfolding SliceFrom entities_from
first_from least e value [] bound h from given before = absurd (none-ne-some value (sym (none_loaded e) ∙ given))
first_from least e value (l ∷ ls) bound h from given before =
    compared l.id least
    (λ low.
    rw (lt-ltb l.id least low, lt-ltb l.id (suc e) (omega arith))
    (first_from least e value ls (suc l.id) h.1 from
    (sym (loaded_other l ls e (λ same. omega arith)) ∙ given)
    (λ x at_least_lem below. sym (loaded_other l ls x (λ same. omega arith)) ∙ before x at_least_lem below)))
    (λ high.
    compared l.id e
    (λ earlier. absurd (some-ne-none l.value (sym (loaded_own l ls l.id refl) ∙ before l.id high earlier)))
    (λ not-Earlier.
    compared e l.id
    (λ later.
    absurd (none-ne-some value
    (sym (loaded_other l ls e (λ same. omega arith) ∙ before_first e (suc l.id) ls (omega arith) h.1) ∙ given)))
    (λ not-later.
    let same : l.id ≡ e = omega arith in
    let is : l.value ≡ value = some-injective _ _ (sym (loaded_own l ls e same) ∙ given) in
    let rest : entities_from (suc e) ls ≡ ls = subst (λ (x : ℕ). entities_from (suc x) ls ≡ ls) same (all_from (suc l.id) ls h.1) in
    rw (le-ltb l.id least high, lt-ltb l.id (suc e) (omega arith), rest, ← same, ← is))))

none_from : (least : ℕ) (slice : List Loaded) → ((x : ℕ) → least ≤ x → loaded_as x slice ≡ none) → entities_from least slice ≡ []
unfolding entities_from
none_from least [] none_there = refl
none_from least (l ∷ ls) none_there =
    compared l.id least
    (λ low.
    rw (lt-ltb l.id least low)
    (none_from least ls (λ x at_least_lem. sym (loaded_other l ls x (λ same. omega arith)) ∙ none_there x at_least_lem)))
    (λ high. absurd (some-ne-none l.value (sym (loaded_own l ls l.id refl) ∙ none_there l.id high)))

-- ---- how many words entities take

-- the sizes of what rows that ask for e have, and of what rows for entities below one have
sizes_to : ℕ → List EntityRequest → List ℕ → ℕ
sizes_to e [] sizes = 0
sizes_to e (row ∷ rows) [] = 0
sizes_to e (row ∷ rows) (n ∷ sizes) = cond (eqb row.id e) n 0 + sizes_to e rows sizes

unfoldable pub sizes_below : ℕ → List EntityRequest → List ℕ → ℕ
sizes_below least [] sizes = 0
sizes_below least (row ∷ rows) [] = 0
sizes_below least (row ∷ rows) (n ∷ sizes) = cond (ltb row.id least) n 0 + sizes_below least rows sizes

below_all : (least : ℕ) (rows : List EntityRequest) (sizes : List ℕ) → sizes_below least rows sizes ≤ total sizes
unfolding sizes_below total
below_all least [] sizes = omega arith
below_all least (row ∷ rows) [] = omega arith
below_all least (row ∷ rows) (n ∷ sizes) =
    by_test (ltb row.id least) (λ t. rw t (omega (arith, below_all least rows sizes)))
    (λ t. rw t (omega (arith, below_all least rows sizes)))

below_next :
    (least e : ℕ) (rows : List EntityRequest) (sizes : List ℕ)
    → least ≤ e
    → sizes_below least rows sizes + sizes_to e rows sizes ≤ sizes_below (suc e) rows sizes
unfolding sizes_below sizes_to
below_next least e [] sizes le = omega arith
below_next least e (row ∷ rows) [] le = omega arith
below_next least e (row ∷ rows) (n ∷ sizes) le =
    let rest = below_next least e rows sizes le in
    compared row.id least
    (λ low.
    rw (lt-ltb row.id least low, ne_eqb row.id e (λ same. omega arith), lt-ltb row.id (suc e) (omega arith)) (omega arith))
    (λ high.
    by_test (eqb row.id e)
    (λ t.
    let same = eqb-true row.id e t in
    rw (le-ltb row.id least high, t, lt-ltb row.id (suc e) (omega arith)) (omega arith))
    (λ t.
    by_test (ltb row.id (suc e)) (λ u. rw (le-ltb row.id least high, t, u) (omega arith))
    (λ u. rw (le-ltb row.id least high, t, u) (omega arith))))

answers_sizes :
    (e : ℕ) (rows : List EntityRequest) (answers : List (Option Entity))
    → entity_sizes (answers_to e rows answers) ≡ sizes_to e rows (map answer_size answers)
unfolding answers_to entity_sizes sizes_to
answers_sizes e [] answers = refl
answers_sizes e (row ∷ rows) [] = refl
answers_sizes e (row ∷ rows) (none ∷ answers) =
    by_test (eqb row.id e) (λ t. rw (t, answers_sizes e rows answers) (omega arith))
    (λ t. rw (t, answers_sizes e rows answers) (omega arith))
answers_sizes e (row ∷ rows) (some value ∷ answers) =
    by_test (eqb row.id e) (λ t. rw (t, answers_sizes e rows answers)) (λ t. rw (t, answers_sizes e rows answers) (omega arith))

ids_sizes_to :
    (e : ℕ) (rows : List EntityRequest) (sets : List (List ℕ)) → length (ids_to e rows sets) ≡ sizes_to e rows (map length sets)
unfolding ids_to sizes_to
ids_sizes_to e [] sets = refl
ids_sizes_to e (row ∷ rows) [] = refl
ids_sizes_to e (row ∷ rows) (ids ∷ sets) =
    by_test (eqb row.id e)
    (λ t. rw (t, length-append ids (ids_to e rows sets), ids_sizes_to e rows sets))
    (λ t. rw (t, ids_sizes_to e rows sets) (omega arith))

-- the words of entities below one
abbrev pub words_below : List ℕ → List ℕ → List ℕ → List ℕ → List ℕ → ℕ → ℕ
words_below words rows places sets set_places least =
    sizes_below least (rows_asked rows) (map answer_size (answers_in words places))
    + sizes_below least (rows_asked rows) (map length (sets_in sets set_places))

module _ (words rows places sets set_places : List ℕ) where
  pub words_all : (least : ℕ) → words_below words rows places sets set_places least ≤ words_of_all words places sets set_places
  words_all least =
      omega (
        arith,
        below_all least (rows_asked rows) (map answer_size (answers_in words places)),
        below_all least (rows_asked rows)
            (map length (sets_in sets set_places)),
      )

  pub words_next :
      (least e : ℕ)
      → least ≤ e
      → words_below words rows places sets set_places least + words_for words rows places sets set_places e
      ≤ words_below words rows places sets set_places (suc e)
  words_next least e le =
      omega (
        arith,
        below_next least e (rows_asked rows) (map answer_size (answers_in words places)) le,
        below_next least e (rows_asked rows) (map length (sets_in sets set_places)) le,
        answers_sizes e (rows_asked rows) (answers_in words places),
        ids_sizes_to e (rows_asked rows) (sets_in sets set_places),
      )

-- ---- the slice under way

-- an entity that is asked is an id
pub id_small : (e : ℕ) (rows : List ℕ) (answers : List (Option Entity)) → answers_to e (rows_asked rows) answers ≢ [] → e < 65536
unfolding answers_to
id_small e [] answers some-there = absurd (some-there refl)
id_small e (w ∷ rows) [] some-there = absurd (some-there refl)
id_small e (w ∷ rows) (none ∷ answers) some-there = id_small e rows answers some-there
id_small e (w ∷ rows) (some value ∷ answers) some-there =
    by_test (eqb (w % 65536) e)
    (λ t. omega (arith, eqb-true (w % 65536) e t))
    (λ t. id_small e rows answers (rw t at some-there))

-- what there is of an entity, with its ancestors
module _ (rows : List EntityRequest) (answers : List (Option Entity)) (sets : List (List ℕ)) (slice : List Loaded)
    (slice-of : SliceOf rows answers slice) where
  none_answered : (x : ℕ) → answers_to x rows answers ≡ [] → loaded_as x (with_ancestors rows sets slice) ≡ none
  unfolding merged_of
  none_answered x none_there = ancestors_loaded rows sets slice x ∙ rw (slice-of.merged x, none_there)

  some_answered :
      (e : ℕ) (value : Entity)
      → merged_of (answers_to e rows answers) ≡ some value
      → loaded_as e (with_ancestors rows sets slice) ≡ some (with_more (ids_to e rows sets) value)
  some_answered e value given = ancestors_loaded rows sets slice e ∙ rw (slice-of.merged e, given)

  -- answers to an entity merge
  answered_merge : (e : ℕ) → answers_to e rows answers ≢ [] → (value : Entity) × (merged_of (answers_to e rows answers) ≡ some value)
  answered_merge e some-there =
      by_option (loaded_as e slice)
      (λ h. absurd (some-there (slice-of.answered e h)))
      (λ value h. (value, sym (slice-of.merged e) ∙ h))

words_more : (a : List Loaded) (l : Loaded) → slice_words (a ++ (l ∷ [])) ≡ slice_words a ++ entity_words l.id l.value
unfolding slice_words
words_more [] l = append-nil (entity_words l.id l.value)
words_more (x ∷ a) l =
    rw (words_more a l) (sym (append_assoc (entity_words x.id x.value) (slice_words a) (entity_words l.id l.value)))

-- e is the first, from `least` on, to which there is an answer
abbrev pub NextFor : ℕ → List EntityRequest → List (Option Entity) → ℕ → Type 0
NextFor least rows answers e =
    (least ≤ e) × (answers_to e rows answers ≢ []) × ((x : ℕ) → least ≤ x → x < e → answers_to x rows answers ≡ [])

-- the entities below one are written
pub record Written (slice : List Loaded) (out : List ℕ) (to : ℕ) (out' : List ℕ) (least end count : ℕ) : Type 0 where
  pub before : List Loaded
  pub split : slice ≡ before ++ entities_from least slice
  pub wrote : Wrote out to (slice_words before) out' end
  pub counted : count ≡ length before

pub record BuiltTo
    (words rows places sets set_places out : List ℕ) (to : ℕ) (scratch out' scratch' : List ℕ) (least end count : ℕ)
    : Type 0 where
  pub written :
      (slice : List Loaded)
      → SliceOf (rows_asked rows) (answers_in words places) slice
      → Written (with_ancestors (rows_asked rows) (sets_in sets set_places) slice) out to out' least end count
  pub few : end ≤ to + words_below words rows places sets set_places least
  pub counts : count ≤ least
  pub kept : length out' ≡ length out
  pub scratch_kept : length scratch' ≡ length scratch

module _ {words rows places sets set_places out : List ℕ} {to : ℕ} {scratch : List ℕ}
    (fit : SliceFit words rows places sets set_places out to scratch)
  where
    pub built_none : BuiltTo words rows places sets set_places out to scratch out scratch 0 to 0
    unfolding slice_words
    built_none = record {
      written = λ slice slice-of. record {
        before = [];
        split = sym (all_from 0 _ (ancestors_ascend (rows_asked rows) (sets_in sets set_places) 0 slice slice-of.ascends));
        wrote = record { after = omega arith; text = refl };
        counted = refl;
      };
      few = omega arith;
      counts = omega arith;
      kept = refl;
      scratch_kept = refl;
    }

    module _ {out' scratch' : List ℕ} {least end count : ℕ}
        (sofar : BuiltTo words rows places sets set_places out to scratch out' scratch' least end count)
      where
        -- no entity is left
        pub built_all :
            ((x : ℕ) → least ≤ x → answers_to x (rows_asked rows) (answers_in words places) ≡ [])
            → (slice : List Loaded)
            → SliceOf (rows_asked rows) (answers_in words places) slice
            → WroteSlice (with_ancestors (rows_asked rows) (sets_in sets set_places) slice) out to out' (record { count = count; end = end })
        built_all none_left slice slice-of =
            let here = sofar.written slice slice-of in
            let asked = rows_asked rows in
            let all : with_ancestors asked (sets_in sets set_places) slice ≡ here.before =
            here.split
            ∙ ap (λ l. here.before ++ l)
            (none_from least _ (λ x from. none_answered asked (answers_in words places) (sets_in sets set_places) slice slice-of x
            (none_left x from)))
            ∙ append-nil here.before in
            rw all (record {
              wrote = here.wrote;
              counted = here.counted;
              inside = omega (arith, fit.room, sofar.few, words_all words rows places sets set_places least);
            })

        -- the next entity
        module _ (e : ℕ) (next : NextFor least (rows_asked rows) (answers_in words places) e) where
          next_small : e < 65536
          next_small = id_small e rows (answers_in words places) next.1

          pub next_fit : EntityFit words rows places sets set_places e out' end scratch'
          next_fit =
              let (value, given) = answered_merge (rows_asked rows) (answers_in words places) (sets_in sets set_places) fit.slice
              fit.slice-of e next.1 in
              let most = words_all words rows places sets set_places (suc e) in
              let more = words_next words rows places sets set_places least e next.0 in
              record {
                heard = fit.heard;
                sets_heard = fit.sets_heard;
                id = next_small;
                value = value;
                merged = given;
                few = omega (arith, fit.few);
                room = omega (arith, fit.room, sofar.few, sofar.kept);
                scratch_room = omega (arith, fit.scratch_room, sofar.scratch_kept);
              }

          pub built_next :
              (out'' scratch'' : List ℕ) (end' : ℕ)
              → length out'' ≡ length out'
              → length scratch'' ≡ length scratch'
              → EntityWritten words rows places sets set_places e out' end out'' end'
              → BuiltTo words rows places sets set_places out to scratch out'' scratch'' (e + 1) end' (count + 1)
          built_next out'' scratch'' end' kept scratch_kept entity = record {
            written = more;
            few = rw (add-one e) (omega (arith, entity.few, sofar.few, words_next words rows places sets set_places least e next.0));
            counts = omega (arith, sofar.counts, next.0);
            kept = kept ∙ sofar.kept;
            scratch_kept = scratch_kept ∙ sofar.scratch_kept;
          }
            where
              more :
                  (slice : List Loaded)
                  → SliceOf (rows_asked rows) (answers_in words places) slice
                  → Written (with_ancestors (rows_asked rows) (sets_in sets set_places) slice) out to out'' (e + 1) end' (count + 1)
              more slice slice-of =
                  let asked = rows_asked rows in
                  let answers = answers_in words places in
                  let ancestors = sets_in sets set_places in
                  let here = sofar.written slice slice-of in
                  let (value, given) = answered_merge asked answers ancestors slice slice-of e next.1 in
                  let one = loaded e (with_more (ids_to e asked ancestors) value) in
                  let first : entities_from least (with_ancestors asked ancestors slice)
                  ≡ one ∷ entities_from (suc e) (with_ancestors asked ancestors slice) =
                  first_from least e (with_more (ids_to e asked ancestors) value) (with_ancestors asked ancestors slice) 0
                  (ancestors_ascend asked ancestors 0 slice slice-of.ascends) next.0
                  (some_answered asked answers ancestors slice slice-of e value given)
                  (λ x from below. none_answered asked answers ancestors slice slice-of x (next.2 x from below)) in
                  record {
                    before = here.before ++ (one ∷ []);
                    split =
                        here.split
                        ∙ ap (λ l. here.before ++ l) first
                        ∙ rw (add-one e) (sym (append_snoc here.before one
                        (entities_from (suc e) (with_ancestors asked ancestors slice))));
                    wrote = rw (words_more here.before one) (wrote_more here.wrote (entity.wrote value given));
                    counted = omega (arith, here.counted, length-append here.before (one ∷ []));
                  }

-- ---- entity by entity, from the keys of its rows

-- what scratch holds does not matter
pub fit_again :
    {words rows places sets set_places out : List ℕ} {to : ℕ} {scratch scratch' : List ℕ}
    → SliceFit words rows places sets set_places out to scratch
    → length scratch' ≡ length scratch
    → SliceFit words rows places sets set_places out to scratch'
fit_again fit kept = record {
  heard = fit.heard;
  sets_heard = fit.sets_heard;
  slice = fit.slice;
  slice-of = fit.slice-of;
  few_rows = fit.few_rows;
  sort_room = omega (arith, fit.sort_room);
  few = fit.few;
  room = fit.room;
  scratch_room = omega (arith, fit.scratch_room);
}

-- Of the entities that the keys before a place ask for, all below a bound, those with an answer are written. The others are from `least` on.
pub record GroupsTo
    (words rows places sets set_places out : List ℕ) (to : ℕ) (scratch out' scratch' : List ℕ) (from end count : ℕ)
    : Type 0 where
  pub least : ℕ
  pub bound : ℕ
  pub built : BuiltTo words rows places sets set_places out to scratch out' scratch' least end count
  pub inside : from ≤ length (sorted_keys rows)
  pub before : (i : ℕ) → i < from → get_or (sorted_keys rows) i 0 % 65536 < bound
  pub behind : (i : ℕ) → from ≤ i → i < length (sorted_keys rows) → bound ≤ get_or (sorted_keys rows) i 0 % 65536
  pub low : least ≤ bound
  pub gap : (x : ℕ) → least ≤ x → x < bound → answers_for words rows places x ≡ []

module _ {words rows places sets set_places out : List ℕ} {to : ℕ} {scratch : List ℕ}
    (fit : SliceFit words rows places sets set_places out to scratch)
  where
    pub groups_none : GroupsTo words rows places sets set_places out to scratch out scratch 0 to 0
    groups_none = record {
      least = 0;
      bound = 0;
      built = built_none fit;
      inside = omega arith;
      before = λ i less. absurd (omega arith);
      behind = λ i past less. omega arith;
      low = omega arith;
      gap = λ x at_least_lem less. absurd (omega arith);
    }

    module _ {out' scratch' : List ℕ} {from end count : ℕ}
        (sofar : GroupsTo words rows places sets set_places out to scratch out' scratch' from end count)
      where
        -- no key asks for an entity
        none_there :
            (x : ℕ)
            → sofar.least ≤ x
            → ((i : ℕ) → from ≤ i → i < length (sorted_keys rows) → get_or (sorted_keys rows) i 0 % 65536 ≡ x → ⊥)
            → answers_for words rows places x ≡ []
        none_there x at_least_lem not_behind =
            compared x sofar.bound
            (λ below. sofar.gap x at_least_lem below)
            (λ past.
            none_answers rows fit.few_rows x
            (λ i less same.
            compared i from (λ early. omega (arith, sofar.before i early)) (λ late. not_behind i late less same))
            words places)

        -- no key is left
        pub groups_all :
            length (sorted_keys rows) ≤ from
            → (slice : List Loaded)
            → SliceOf (rows_asked rows) (answers_in words places) slice
            → WroteSlice (with_ancestors (rows_asked rows) (sets_in sets set_places) slice) out to out' (record { count = count; end = end })
        groups_all past =
            built_all fit sofar.built (λ x at_least_lem. none_there x at_least_lem (λ i late less. absurd (omega arith)))

        module _ {next : ℕ} (ends : GroupEnds (sorted_keys rows) from next) where
          abbrev e : ℕ
          e = get_or (sorted_keys rows) from 0 % 65536

          abbrev own : List ℕ
          own = group rows fit.few_rows ends

          started : sofar.bound ≤ e
          started = sofar.behind from (omega arith) (omega (arith, ends.some, ends.inside))

          earlier : (i : ℕ) → i < from → get_or (sorted_keys rows) i 0 % 65536 < e
          earlier i less = omega (arith, sofar.before i less, started)

          first_none : (x : ℕ) → sofar.least ≤ x → x < e → answers_for words rows places x ≡ []
          first_none x at_least_lem less =
              none_there x at_least_lem
              (λ i late inside same. omega (arith, entities_ascend rows fit.few_rows from i late inside))

          own_answers : answers_for words own (places_of places own) e ≡ answers_for words rows places e
          own_answers = group_answers rows fit.few_rows ends earlier words places

          own_ids : ids_for own sets (places_of set_places own) e ≡ ids_for rows sets set_places e
          own_ids = group_ids rows fit.few_rows ends earlier sets set_places

          pub group_counts : count < 65536
          group_counts = omega (arith, sofar.built.counts, sofar.low, started)

          pub own_heard : Heard words own (places_of places own)
          own_heard = group_heard rows fit.few_rows ends fit.heard

          passed : (i : ℕ) → i < next → get_or (sorted_keys rows) i 0 % 65536 < e + 1
          passed i less =
              compared i from (λ early. omega (arith, earlier i early)) (λ late. omega (arith, ends.same i late less))

          ahead : (i : ℕ) → next ≤ i → i < length (sorted_keys rows) → e + 1 ≤ get_or (sorted_keys rows) i 0 % 65536
          ahead i late less = omega (arith, behind_greater rows fit.few_rows ends i late less)

          -- there is no answer
          pub groups_passed :
              answers_for words own (places_of places own) e ≡ []
              → GroupsTo words rows places sets set_places out to scratch out' scratch' next end count
          groups_passed none-own = record {
            least = sofar.least;
            bound = e + 1;
            built = sofar.built;
            inside = ends.inside;
            before = passed;
            behind = ahead;
            low = omega (arith, sofar.low, started);
            gap = λ x at_least_lem less.
                compared x e (λ below. first_none x at_least_lem below)
                (λ not-below. let same : x ≡ e = omega arith in rw same (sym own_answers ∙ none-own));
          }

          -- there is one
          module _ (some-own : answers_for words own (places_of places own) e ≢ []) where
            is_next : NextFor sofar.least (rows_asked rows) (answers_in words places) e
            is_next = (omega (arith, sofar.low, started), (λ none_here. some-own (own_answers ∙ none_here)), first_none)

            pub group_fit : EntityFit words own (places_of places own) sets (places_of set_places own) e out' end scratch'
            group_fit =
                let whole = next_fit fit sofar.built e is_next in
                record {
                  heard = own_heard;
                  sets_heard = group_sets rows fit.few_rows ends fit.sets_heard;
                  id = whole.id;
                  value = whole.value;
                  merged = rw own_answers whole.merged;
                  few = rw (own_answers, own_ids) whole.few;
                  room = rw (own_answers, own_ids) whole.room;
                  scratch_room = rw (own_answers, own_ids) whole.scratch_room;
                }

            pub groups_next :
                (out'' scratch'' : List ℕ) (end' : ℕ)
                → length out'' ≡ length out'
                → length scratch'' ≡ length scratch'
                → EntityWritten words own (places_of places own) sets (places_of set_places own) e out' end out'' end'
                → GroupsTo words rows places sets set_places out to scratch out'' scratch'' next end' (count + 1)
            groups_next out'' scratch'' end' kept scratch_kept written = record {
              least = e + 1;
              bound = e + 1;
              built = built_next fit sofar.built e is_next out'' scratch'' end' kept scratch_kept (record {
                wrote = λ value given. rw own_ids at (written.wrote value (own_merged value given));
                few = rw (own_answers, own_ids) at written.few;
              });
              inside = ends.inside;
              before = passed;
              behind = ahead;
              low = omega arith;
              gap = λ x at_least_lem less. absurd (omega arith);
            }
              where
                own_merged : (value : Entity) → merged_of (answers_for words rows places e) ≡ some value
                    → merged_of (answers_for words own (places_of places own) e) ≡ some value
                own_merged value given = rw own_answers given
