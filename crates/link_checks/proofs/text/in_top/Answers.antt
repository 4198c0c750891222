use Rattle.std.proofs.Common.{ℕ, List, [], ◌∷◌, ap, sym, ◌∙◌}
use Rattle.p4_tree.specs.View.{top_of}
use Rattle.p4_tree.specs.declared.program.Top as code
use Rattle.p4_tree.specs.declared.statement.PTy.{PTy}
use Rattle.link_faults.specs.WrittenNames.{first_taken, names_of_fields, names_of_top}
use Rattle.link_checks.proofs.text.in_top.Goals as goal

pub returns-in-Header : goal.returns-in-Header
returns-in-Header c =
    c.first-in-Header.ensures (c.in-Header.x ∷ []) (names_of_fields c.in-Header.fields.items) c.in_name-in-Header.ensures
    (c.in_fields.ensures ∙ ap (λ (fs : List (PTy × List ℕ)). first_taken (names_of_fields fs)) c.deref.ensures.value)
    ∙ ap (λ (t : code.Top). first_taken (names_of_top (top_of t))) (sym c.in-Header.is)

pub returns-in-Struct : goal.returns-in-Struct
returns-in-Struct c =
    c.first-in-Struct.ensures (c.in-Struct.x ∷ []) (names_of_fields c.in-Struct.fields.items) c.in_name-in-Struct.ensures
    (c.in_fields-in-Struct.ensures ∙ ap (λ (fs : List (PTy × List ℕ)). first_taken (names_of_fields fs)) c.deref-in-Struct.ensures.value)
    ∙ ap (λ (t : code.Top). first_taken (names_of_top (top_of t))) (sym c.in-Struct.is)
