-- `load_ancestors::requests::write_slice` meets its contract: the slice is built without sets, and its words are read back.
use native.Mathlib.Omega.{arith}
use mathlib.Core.Path.{sym, ap, ◌∙◌}
use lib.Seq.{length-take-le}
use Rattle.rules.specs.Loading.{Load}
use Rattle.load_ends.specs.LoadedLaws.{read_same, read_few, read_inside}
use Rattle.load_ends.specs.SliceFitLaws.{read_slice, asking_fit}
use Rattle.load_ancestors.specs.ReadableLaws.{read_again}
use Rattle.load_ancestors.proofs.requests.write_slice.Goals as goal

pub slice_bounds-build_slice-end-2 : goal.slice_bounds-build_slice-end-2
slice_bounds-build_slice-end-2 c = sym (length-take-le _ _ (read_inside c.requires.read_to))

pub slice_bounds-build_slice-end-3 : goal.slice_bounds-build_slice-end-3
slice_bounds-build_slice-end-3 c = sym (length-take-le _ _ (omega (arith, read_few c.requires.read_to)))

pub build_slice-built-requires : goal.build_slice-built-requires
build_slice-built-requires c =
    asking_fit c.requires.read_to (omega arith) _ _ c.requires.in_bounds.1 (omega arith)

pub returns-clause-slice : goal.returns-clause-slice
returns-clause-slice c =
    let a = c.args in
    let wrote = c.build_slice-built.ensures c.requires.read_to.load.slice (read_slice c.requires.read_to (omega arith)) in
    let fit = asking_fit c.requires.read_to (omega arith) a.out.now a.work.now.scratch c.requires.in_bounds.1 (omega arith) in (
      omega (arith, wrote.inside, c.build_slice-built.auto.out),
      λ load told. read_again c.requires.read_to (omega arith) fit wrote ∙ ap (λ (l : Load). l.slice) (read_same c.requires.read_to told),
    )
