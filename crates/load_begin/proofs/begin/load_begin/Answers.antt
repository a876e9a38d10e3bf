-- `load_begin::begin::load_begin` meets its contract: each test that fails gives its refusal, and what is left is begun.
use Prim.Native.Nat.{◌<◌}
use native.Mathlib.Nat.{add-sub_cancel}
use native.Mathlib.Omega.{arith}
use mathlib.Core.Path.{◌≡◌, sym, ◌∙◌}
use mathlib.Core.Bool.{true, ◌&&◌}
use borrow.Author.Tests.{le-leb, lt-leb, leb-true}
use lib.Dec.{leb}
use lib.ListN.{length, drop, get_or, length-drop}
use lib.Seq.{length-take-le}
use Rattle.rules.specs.Tries.{manifest}
use Rattle.rows.specs.States.{lawful_state}
use Rattle.rows.specs.StateLaws.{count_within, words_good}
use Rattle.load_state.specs.LoadStates.{is_request}
use Rattle.load_begin.specs.Begins.{lawful_context}
use Rattle.load_begin.specs.BeginLaws.{begin_short, begin_unlawful, begin_lawful, context_few, manifest_nodes}
use Rattle.load_state.specs.WorkedLaws.{request_ids}
use Rattle.load_begin.proofs.begin.load_begin.Goals as goal
use Rattle.load_begin.proofs.begin.load_begin.Goals.{Else-context-lt-CONTEXT_WORDS, Else-manifest-words, Else-not-is_lawful, Else-not-is_lawful_context, Else-not-is_request, Else-state-lt-WORDS}

-- what the tests that were passed say
long-manifest : (c : Else-manifest-words) → leb 4161 (length c.args.manifest.now) ≡ true
long-manifest c = le-leb 4161 (length c.args.manifest.now) (omega (arith, c.words.ensures, c.if-manifest-words.false))

long-context : (c : Else-context-lt-CONTEXT_WORDS) → leb 8193 (length c.args.context.now) ≡ true
long-context c = le-leb 8193 (length c.args.context.now) (omega (arith, c.if-context-lt-CONTEXT_WORDS.false))

long : (c : Else-state-lt-WORDS) → (leb 4161 (length c.args.manifest.now) ≡ true) → (leb 8193 (length c.args.context.now) ≡ true) →
    let a = c.args in
    (leb 4161 (length a.manifest.now) && (leb 8193 (length a.context.now) && leb 36874 (length a.state.now))) ≡ true
long c long-manifest-here long-context-here = rw (long-manifest-here, long-context-here, le-leb 36874 (length c.args.state.now) (omega (arith, c.if-state-lt-WORDS.false)))

lawful_manifest : (c : Else-not-is_lawful) → lawful_state manifest c.args.manifest.now ≡ true
lawful_manifest c = sym c.is_lawful.ensures ∙ c.if-not-is_lawful.false

of_ids : (c : Else-not-is_request) → let a = c.args in is_request a.triple a.principal a.resource ≡ true
of_ids c = sym c.is_request.ensures ∙ c.if-not-is_request.false

lawful-context : (c : Else-not-is_lawful_context) → lawful_context c.args.context.now ≡ true
lawful-context c = sym c.is_lawful_context.ensures ∙ c.if-not-is_lawful_context.false

rows-within : (c : Else-not-is_lawful_context) → (lawful_state manifest c.args.manifest.now ≡ true) → let a = c.args in get_or a.manifest.now 0 0 < length a.manifest.now
rows-within c lawful_manifest-here = count_within manifest c.args.manifest.now lawful_manifest-here

pub returns-then-manifest-words : goal.returns-then-manifest-words
returns-then-manifest-words c =
    let a = c.args in
    begin_short a.manifest.now a.triple a.principal a.resource a.context.now a.state.now (rw (lt-leb 4161 (length a.manifest.now) (omega (arith, c.words.ensures, c.if-manifest-words.true))))

pub returns-then-context-lt-CONTEXT_WORDS : goal.returns-then-context-lt-CONTEXT_WORDS
returns-then-context-lt-CONTEXT_WORDS c =
    let a = c.args in
    begin_short a.manifest.now a.triple a.principal a.resource a.context.now a.state.now (rw (long-manifest (goal.at.returns-then-context-lt-CONTEXT_WORDS c).Else-manifest-words, lt-leb 8193 (length a.context.now) (omega (arith, c.if-context-lt-CONTEXT_WORDS.true))))

pub returns-then-state-lt-WORDS : goal.returns-then-state-lt-WORDS
returns-then-state-lt-WORDS c =
    let a = c.args in
    begin_short a.manifest.now a.triple a.principal a.resource a.context.now a.state.now (rw (long-manifest (goal.at.returns-then-state-lt-WORDS c).Else-manifest-words, long-context (goal.at.returns-then-state-lt-WORDS c).Else-context-lt-CONTEXT_WORDS, lt-leb 36874 (length a.state.now) (omega (arith, c.if-state-lt-WORDS.true))))

pub returns-then-not-is_lawful : goal.returns-then-not-is_lawful
returns-then-not-is_lawful c =
    let a = c.args in
    begin_unlawful a.manifest.now a.triple a.principal a.resource a.context.now a.state.now (long (goal.at.returns-then-not-is_lawful c).Else-state-lt-WORDS (long-manifest (goal.at.returns-then-not-is_lawful c).Else-manifest-words) (long-context (goal.at.returns-then-not-is_lawful c).Else-context-lt-CONTEXT_WORDS)) (rw (sym c.is_lawful.ensures ∙ c.if-not-is_lawful.true))

pub returns-then-not-is_request : goal.returns-then-not-is_request
returns-then-not-is_request c =
    let a = c.args in
    begin_unlawful a.manifest.now a.triple a.principal a.resource a.context.now a.state.now (long (goal.at.returns-then-not-is_request c).Else-state-lt-WORDS (long-manifest (goal.at.returns-then-not-is_request c).Else-manifest-words) (long-context (goal.at.returns-then-not-is_request c).Else-context-lt-CONTEXT_WORDS)) (rw (lawful_manifest (goal.at.returns-then-not-is_request c).Else-not-is_lawful, sym c.is_request.ensures ∙ c.if-not-is_request.true))

pub returns-then-not-is_lawful_context : goal.returns-then-not-is_lawful_context
returns-then-not-is_lawful_context c =
    let a = c.args in
    begin_unlawful a.manifest.now a.triple a.principal a.resource a.context.now a.state.now (long (goal.at.returns-then-not-is_lawful_context c).Else-state-lt-WORDS (long-manifest (goal.at.returns-then-not-is_lawful_context c).Else-manifest-words) (long-context (goal.at.returns-then-not-is_lawful_context c).Else-context-lt-CONTEXT_WORDS)) (rw (lawful_manifest (goal.at.returns-then-not-is_lawful_context c).Else-not-is_lawful, of_ids (goal.at.returns-then-not-is_lawful_context c).Else-not-is_request, sym c.is_lawful_context.ensures ∙ c.if-not-is_lawful_context.true))

pub overflow_add-end : goal.overflow_add-end
overflow_add-end c = omega (arith, rows-within (goal.at.overflow_add-end c).Else-not-is_lawful_context (lawful_manifest (goal.at.overflow_add-end c).Else-not-is_lawful))

pub overflow_add-last : goal.overflow_add-last
overflow_add-last c = omega (arith, context_few _ (lawful-context (goal.at.overflow_add-last c).Else-not-is_lawful_context))

pub slice_bounds-begin_load-end : goal.slice_bounds-begin_load-end
slice_bounds-begin_load-end c = omega (arith, rows-within (goal.at.slice_bounds-begin_load-end c).Else-not-is_lawful_context (lawful_manifest (goal.at.slice_bounds-begin_load-end c).Else-not-is_lawful))

pub slice_bounds-begin_load-end-2 : goal.slice_bounds-begin_load-end-2
slice_bounds-begin_load-end-2 c =
    omega (arith, context_few _ (lawful-context (goal.at.slice_bounds-begin_load-end-2 c).Else-not-is_lawful_context), leb-true 8193 (length c.args.context.now) (long-context (goal.at.slice_bounds-begin_load-end-2 c).Else-context-lt-CONTEXT_WORDS))

pub begin_load-requires : goal.begin_load-requires
begin_load-requires c =
    let a = c.args in
    let rows = lawful_manifest (goal.at.begin_load-requires c).Else-not-is_lawful in
    let ids = request_ids a.triple a.principal a.resource (of_ids (goal.at.begin_load-requires c).Else-not-is_request) in
    let few = context_few a.context.now (lawful-context (goal.at.begin_load-requires c).Else-not-is_lawful_context) in
    let room = leb-true 8193 (length a.context.now) (long-context (goal.at.begin_load-requires c).Else-context-lt-CONTEXT_WORDS) in
    rw (add-sub_cancel, add-sub_cancel) record { rows_value = (words_good manifest a.manifest.now rows, (manifest_nodes a.manifest.now rows, rw (length-take-le (get_or a.context.now 0 0) (drop 1 a.context.now) (simp length-drop (omega (arith, few, room)))) (omega (arith, few)))); principal_bound = (ids.0, (ids.1, omega (arith, c.if-state-lt-WORDS.false))) }

pub returns : goal.returns
returns c =
    let a = c.args in
    rw (begin_lawful a.manifest.now a.triple a.principal a.resource a.context.now a.state.now (long (goal.at.returns c).Else-state-lt-WORDS (long-manifest (goal.at.returns c).Else-manifest-words) (long-context (goal.at.returns c).Else-context-lt-CONTEXT_WORDS)) (rw (lawful_manifest (goal.at.returns c).Else-not-is_lawful, of_ids (goal.at.returns c).Else-not-is_request, lawful-context (goal.at.returns c).Else-not-is_lawful_context)))
    (simp add-sub_cancel at c.begin_load.ensures)
