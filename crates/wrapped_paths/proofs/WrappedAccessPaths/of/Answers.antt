-- `wrapped_paths::WrappedAccessPaths::of` meets its contract: a word's last three bits say its kind.
use native.Mathlib.Omega.{arith}
use Rattle.wrapped_paths.specs.CodeLaws.{head_empty, head_path, head_union, head_set, head_record}
use mathlib.Core.Path.{sym}
use Rattle.wrapped_paths.proofs.WrappedAccessPaths.of.Goals as goal

pub returns-in-0 : goal.returns-in-0
returns-in-0 c = record { value = sym (head_empty c.args.word c.in-0.is); result_bound = omega arith }

pub returns-in-1 : goal.returns-in-1
returns-in-1 c = record { value = sym (head_path c.args.word c.in-1.is); result_bound = omega arith }

pub returns-in-2 : goal.returns-in-2
returns-in-2 c = record { value = sym (head_union c.args.word c.in-2.is); result_bound = omega arith }

pub returns-in-3 : goal.returns-in-3
returns-in-3 c = record { value = sym (head_set c.args.word c.in-3.is); result_bound = omega arith }

pub returns-in_default : goal.returns-in_default
returns-in_default c = record { value = sym (head_record c.args.word c.in_default.in_default-own.rest.0.0.0.1 c.in_default.in_default-own.rest.0.0.1 c.in_default.in_default-own.rest.0.1 c.in_default.in_default-own.rest.1); result_bound = omega arith }
