-- Contents that fit a property are what the linkage and the map ask for.
use Rattle.std.proofs.Common.{◌≡◌, ℕ, List, ◌+◌, Some, sym, ap, ◌∙◌, subst, arith}
use Rattle.indus_tree.specs.Tree.{Decl, Property}
use Rattle.indus_tree.specs.State.{Contents, lookup}
use Rattle.indus_tree.specs.Hops.{variable_number}
use Rattle.indus_rules.specs.Rules.{IsWellTyped}
use Rattle.whole_properties.specs.Whole as whole
use Rattle.whole_properties.specs.Whole.{Given}
use Rattle.whole_properties.proofs.Declarations.{once}
use Rattle.map_runs.specs.Named.{IsOfShape}
use Rattle.read_contents.specs.Fits.{FitsShape, FitsVariable}
use Rattle.run_headline.specs.Worlds.{IsVariable}
use Rattle.run_headline.proofs.Numbers.{slice_there, is_at}

-- what fits a number's variable fits the one that has the number
pub fits_named : (p : Property) (v : ℕ) (c : Contents) → FitsVariable p.decls v c → (x : List ℕ) (d : Decl) → lookup p.decls x ≡ Some d → variable_number p.decls x ≡ Some v → FitsShape d.shape c
fits_named p v c f x d found number =
    let same : f.decl ≡ d = (let both : Some f.decl ≡ Some d = sym f.declared ∙ slice_there p.decls x d v found number in cc both) in
    subst (λ (e : Decl). FitsShape e.shape c) same f.fits

module _ (g : Given) where
  pub named_is_numbered : (v : ℕ) → whole.IsVariable g v → IsVariable g.property v
  named_is_numbered v (x, d, found, control, number) = (d, slice_there g.property.decls x d v found number, control)

  pub numbered_is_named : IsWellTyped g.property → (v : ℕ) → IsVariable g.property v → whole.IsVariable g v
  numbered_is_named typed v (d, there, control) =
      (let at = is_at g.property.decls v d (once g.property typed) there in (d.name, d, at.found, control, at.number ∙ ap Some (let same : 0 + v ≡ v = omega arith in same)))

  pub fits_linkage : (v : ℕ) (c : Contents) → FitsVariable g.property.decls v c → whole.IsFitContents g v c
  fits_linkage v c f x d found control number = (fits_named g.property v c f x d found number).values

  pub fits_map : (v : ℕ) (c : Contents) → FitsVariable g.property.decls v c → IsOfShape g v c
  fits_map v c f x d found control number = (fits_named g.property v c f x d found number).shape.shape
