use Rattle.std.proofs.lemmas.List.{length-map}
use Rattle.std.proofs.Common.{ap, sym, ◌∙◌, List, ℕ, length, Some}
use Rattle.control_file.specs.Control.{all_unset}
use Rattle.control_file.specs.Views.{contents_view, decls_of}
use Rattle.control_course.proofs.Counts.{if_counted}
use Rattle.control_course.proofs.contents.load_contents.Goals as goal

pub returns-in_ok-contents_before-in-None-clause-count : goal.returns-in_ok-contents_before-in-None-clause-count
returns-in_ok-contents_before-in-None-clause-count g c =
    let held = c.in_ok-contents_before-in-None.field-0 in
    sym (length-map held.items contents_view) ∙ ap length c.in_ok-contents_before-in-None.ensures ∙ length-map c.args.network.now.names (λ (name : List ℕ). all_unset (decls_of c.args.property.now))

pub returns-in-Some-clause-count : goal.returns-in-Some-clause-count
returns-in-Some-clause-count g c = if_counted (decls_of c.args.property.now) c.args.network.now.names (Some c.in-Some.name.now) _ _ _ c.load_file.ensures.follows
