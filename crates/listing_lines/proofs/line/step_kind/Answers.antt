-- `listing_lines::line::step_kind` meets its contract: a byte that is none of f p a r c e has no place among them.
use native.Mathlib.Omega.{arith}
use mathlib.Core.Path.{sym, ◌∙◌}
use borrow.Author.Tests.{ne_eqb}
use lib.ListN.{get_or}
use Rattle.rules.specs.Listing.{place_in}
use Rattle.listing_lines.specs.LineLaws.{kind_left}
use Rattle.listing_lines.proofs.line.step_kind.Goals as goal

pub returns-in_default-letter : goal.returns-in_default-letter
unfolding place_in
returns-in_default-letter c =
    let byte = get_or c.in_ok-get.field-0.now 0 0 in
    sym
    (kind_left c.args.text.now c.args.at _ c.in_ok-get.ensures.lookup.0.2 c.in-len2-up.len_at_least c.if-tab-ne-TAB.false
    ∙ rw (
      ne_eqb byte 102 (λ e. omega arith),
      ne_eqb byte 112 (λ e. omega arith),
      ne_eqb byte 97 (λ e. omega arith),
      ne_eqb byte 114 (λ e. omega arith),
      ne_eqb byte 99 (λ e. omega arith),
      ne_eqb byte 101 (λ e. omega arith),
    ))
