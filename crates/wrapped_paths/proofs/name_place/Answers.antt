-- `wrapped_paths::name_place` meets its contract: the first of the names that is the same.
use Rattle.std.proofs.Common.{nat_eq, rules, tests}
use Rattle.std.proofs.lemmas.Iterator.{YieldsList-from_slice}
use Rattle.std.proofs.lemmas.Iterator.Search.{position_from_yields_List}
use Rattle.wrapped_paths.specs.CodeLaws.{place_found}
use Rattle.wrapped_paths.proofs.name_place.Goals as goal

pub returns : goal.returns
returns c =
    place_found c.args.names.now c.args.name c.position.result
    (position_from_yields_List (λ other. nat_eq other c.args.name) _ _ c.position.result c.position.ensures.ran (YieldsList-from_slice c.args.names.now cc) (λ x b q k. search (rules, tests)))
