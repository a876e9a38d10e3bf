-- `manifest::unite_lawful` meets its contract: what was united is copied, or nothing is.
use Prim.Native.Nat.{◌≤◌}
use mathlib.Core.Path.{◌≡◌, sym, ap, ◌∙◌}
use native.Mathlib.Omega.{arith}
use mathlib.Core.List.{List, ◌∷◌, map}
use lib.ListN.{length, length-map}
use lib.Seq.{length-sets}
use Rattle.rules.specs.Numbers.{Answer, accepted}
use Rattle.rules.specs.Tries.{Row}
use Rattle.rows.specs.Words.{word_of}
use Rattle.words.specs.Runs.{Outcome}
use Rattle.rows.specs.States.{rows_in, holding, storing}
use Rattle.words.specs.RunLaws.{held_count, held_copied}
use Rattle.manifest.specs.Outcomes.{united_rows}
use Rattle.manifest.specs.UniteLaws.{done_rows, added_most}
use Rattle.manifest.proofs.unite_lawful.Goals as goal
use Rattle.manifest.proofs.unite_lawful.Goals.{In_ok-unite}

-- what was united are rows that fit a manifest
united-rows : (c : In_ok-unite) → let a = c.args in (rows : List Row) × (united_rows a.manifest.now a.other.now ≡ accepted rows) × (length rows ≤ 4160) × (c.unite.new.united ≡ holding a.united.now rows)
united-rows c =
    let a = c.args in
    let answer = united_rows a.manifest.now a.other.now in
    let (rows, e) = done_rows a.united.now answer (sym c.unite.ensures.0 ∙ c.in_ok-unite.was) in
    (rows, e, added_most (rows_in a.manifest.now) (rows_in a.other.now) rows e, c.unite.ensures.1 ∙ ap (λ (o : Answer (List Row)). (storing a.united.now o).buffer) e)

pub copy_rows-requires : goal.copy_rows-requires
copy_rows-requires c =
    let u = united-rows (goal.at.copy_rows-requires c).In_ok-unite in
    let count = held_count c.args.united.now (map word_of u.0) (length-map u.0 word_of) (omega (arith, u.2, c.requires.in_bounds.1)) in (
      rw (u.3, count) (omega (arith, u.2, c.requires.in_bounds.1, length-sets c.args.united.now 0 (length u.0 ∷ map word_of u.0))),
      rw (u.3, count) (omega (arith, u.2, c.requires.in_bounds.0)),
    )

pub returns : goal.returns
returns c =
    let a = c.args in
    let u = united-rows (goal.at.returns c).In_ok-unite in
    let stored = ap (λ (o : Answer (List Row)). storing a.manifest.now o) u.1 in
    let copied = rw u.3 at c.copy_rows.ensures in (
      ap (λ (o : Outcome). o.reply) (sym stored),
      copied ∙ held_copied a.united.now (map word_of u.0) (length-map u.0 word_of) (omega (arith, u.2, c.requires.in_bounds.1)) a.manifest.now ∙ ap (λ (o : Outcome). o.buffer) (sym stored),
    )
