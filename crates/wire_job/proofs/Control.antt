-- Properties without control variables, and the first of those that have some.
use Rattle.std.proofs.Common.{◌≡◌, ℕ, ◌+◌, ◌*◌, ◌<◌, Bool, true, false, cond, List, [], ◌∷◌, length, map, drop, get_or, Option, Some, None, Ok, refl, sym, ap, ◌∙◌}
use Rattle.std.proofs.lemmas.List.{drop_more}
use Rattle.indus_tree.specs.Tree as tree
use Rattle.indus_tree.specs.Tree.{Property}
use Rattle.indus_tree.specs.View.{decl_of}
use Rattle.indus_tree.specs.State.{Contents}
use Rattle.indus_tree.specs.Hops.{same_kind}
use Rattle.indus_tree.specs.declared.tree.Decl.{Decl}
use Rattle.indus_tree.specs.declared.tree.DeclKind.TheVariants.{Control}
use Rattle.network_run.specs.Events.{Event}
use Rattle.table_items.specs.Items.{items_from, reads_of, greatest_items, within_limits}
use Rattle.job_course.specs.declared.status.Status.TheVariants.{BadProperty}
use Rattle.job_course.specs.Steps.{Rejects}
use Rattle.wire_job.specs.Lines.{control_line}
use Rattle.wire_job.specs.Course.{first_control, IsUncontrolled, NeedsControl}

-- ---- the first

module _ (ds : List Decl) (i : ℕ) (d : Decl) (within : i < length ds) (is : d ≡ get_or ds i d) where
  left : map decl_of (drop i ds) ≡ decl_of d ∷ map decl_of (drop (i + 1) ds)
  left = ap (map decl_of) (drop_more ds i d within) ∙ ap (λ x. decl_of x ∷ map decl_of (drop (i + 1) ds)) (sym is)

  pub found_behind : same_kind Control d.kind ≡ false → first_control (map decl_of (drop i ds)) ≡ first_control (map decl_of (drop (i + 1) ds))
  found_behind kind = ap first_control left ∙ ap (λ (b : Bool). cond b (Some d.name) (first_control (map decl_of (drop (i + 1) ds)))) kind

-- it is a reason to refuse the property
pub rejects :
    (name : List ℕ) (p : Property) (x line : List ℕ) → first_control p.decls ≡ Some x → line ≡ control_line name x →
    Rejects (IsUncontrolled p) (NeedsControl name p) BadProperty line
rejects name p x line found is =
    record {
      kind = tt;
      admitted = (refl, (x, found, is));
      given = λ free none. (let both : Some x ≡ None = sym found ∙ none in absurd cc);
      other = λ s l h. h.0;
    }

-- ---- none

none_some : (b : Bool) (x : List ℕ) (rest : Option (List ℕ)) → cond b (Some x) rest ≡ None → (b ≡ false) × (rest ≡ None)
none_some true x rest e = absurd cc
none_some false x rest e = (refl, e)

-- they ask for no table items
no_items : (p : Property) (s : ℕ) (cs : List Contents) (es : List (Event Contents)) (v k : ℕ) (ds : List tree.Decl) → first_control ds ≡ None → items_from p s cs es v k ds ≡ 0
no_items p s cs es v k [] h = refl
no_items p s cs es v k (d ∷ ds) h =
    let parts = none_some (same_kind Control d.kind) d.name (first_control ds) h in
    ap (λ (b : Bool). cond b (reads_of p v * greatest_items s v k cs es + items_from p s cs es (v + 1) (k + 1) ds) (items_from p s cs es (v + 1) k ds)) parts.0
    ∙ no_items p s cs es (v + 1) k ds parts.1

pub few_items : (p : Property) (a b c : List Contents) → first_control p.decls ≡ None → within_limits p (0 ∷ 0 ∷ 0 ∷ []) (a ∷ b ∷ c ∷ []) [] ≡ Ok tt
few_items p a b c h =
    rw (no_items p 0 a [] 0 0 p.decls h, no_items p 1 b [] 0 0 p.decls h, no_items p 2 c [] 0 0 p.decls h) refl
