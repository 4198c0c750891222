-- What a control variable was set to, as the program finds it and as the meaning has it.
use Rattle.std.proofs.Common.{◌≡◌, ℕ, List, map, take, Option, Some, ap, sym, ◌∙◌, slice_get, option_map}
use Rattle.std.proofs.lemmas.List.{take-map}
use Rattle.indus_tree.specs.View.{decl_of}
use Rattle.indus_tree.specs.Hops.{contents_at, contents_in, variable_number}
use Rattle.indus_tree.specs.declared.tree.Decl as code_decl
use Rattle.indus_tree.specs.declared.tree.DeclKind.TheVariants.{Control}
use Rattle.indus_values.specs.declared.state.ControlValue.{ControlValue}
use Rattle.indus_values.specs.View.{contents_from, contents_of, or_no_members, seats}

-- the first declarations of the program are the first of the meaning
take_decls : (n : ℕ) (ds : List code_decl.Decl) → take n (map decl_of ds) ≡ map decl_of (take n ds)
take_decls n ds = take-map decl_of n ds

-- at the place among control variables of a variable's number stand its contents
pub contents_found : (ds : List code_decl.Decl) (cs us : List ControlValue) (x : List ℕ) (v n : ℕ) (o : Option ControlValue) → us ≡ cs → Some v ≡ variable_number (map decl_of ds) x → n ≡ seats Control (map decl_of (take v ds)) → o ≡ slice_get us n → or_no_members (option_map contents_of o) ≡ contents_in (map decl_of ds) (contents_from (map decl_of ds) cs) x
contents_found ds cs us x v n o same e h g =
    ap (λ (z : Option ControlValue). or_no_members (option_map contents_of z)) (g ∙ ap (λ (z : List ControlValue). slice_get z n) same)
    ∙ ap (λ (k : ℕ). or_no_members (option_map contents_of (slice_get cs k))) (h ∙ ap (seats Control) (sym (take_decls v ds)))
    ∙ ap (contents_at (contents_from (map decl_of ds) cs)) e
