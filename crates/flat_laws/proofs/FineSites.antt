-- Sites at which no rule is broken.
use Rattle.std.proofs.Common.{◌≡◌, ◌⊎◌, inl, inr, ⊎_elim, ℕ, List, [], Bool, true, false, ◌||◌, refl, sym, ap, ◌∙◌}
use Rattle.rule_sites.specs.Sites.{Sites, nowhere, here, both, BreaksAt}
use Rattle.indus_tree.specs.Tree.{Expr, Stmt, Decl, Property}
use Rattle.indus_scopes.specs.Kinds.{kinds_differ, widths_differ}
use Rattle.indus_scopes.specs.Scopes.{Sight, own}
use Rattle.indus_scopes.specs.declared.kind.Kind.{Kind}
use Rattle.indus_rules.specs.Sites.{Site, at_expr, at_stmt, at_decl, property_sites}
use Rattle.indus_rules.specs.Rules.{Fine, IsWellTyped, Breaks, place_of, broken, names_again, cites_missing, sets_missing, ill_used, ill_set, sets_fixed, hop_in_init, answers_early, pushes_walked, ill_sized, tells_much, declared_twice, ill_declared, bad_shape}
use Rattle.indus_rules.specs.declared.rule.Rule.{Rule}
use Rattle.indus_rules.specs.declared.rule.Rule.TheVariants.{NameTwice, NoSuchName, WidthDiffers, KindDiffers, NotWritable, WrongBlock, LoopListChanged, BadSize}

-- where each site is fine, no rule is broken
none_breaks : (ss : Sites Site) → Fine ss → (r : Rule) (p : ℕ) → BreaksAt Rule Site place_of broken r p ss → ⊥
none_breaks nowhere f r p b = b
none_breaks (here s) f r p b = let both_are : true ≡ false = sym b.1 ∙ f r in cc
none_breaks (both x y) f r p b = ⊎_elim (λ h. none_breaks x f.0 r p h) (λ h. none_breaks y f.1 r p h) b

pub fine_typed : (p : Property) → Fine (property_sites p) → IsWellTyped p
fine_typed p f = λ r n b. none_breaks (property_sites p) f r n b

pub expr_site : (g : Sight) (w : Kind) (e : Expr) → cites_missing g e ≡ false → widths_differ (own g e) w ≡ false → (kinds_differ (own g e) w || ill_used g w e) ≡ false → hop_in_init g e ≡ false → ill_sized w e ≡ false
    → (r : Rule) → broken r (at_expr g w e) ≡ false
expr_site g w e m v k h s NameTwice = refl
expr_site g w e m v k h s NoSuchName = m
expr_site g w e m v k h s WidthDiffers = v
expr_site g w e m v k h s KindDiffers = k
expr_site g w e m v k h s NotWritable = refl
expr_site g w e m v k h s WrongBlock = h
expr_site g w e m v k h s LoopListChanged = refl
expr_site g w e m v k h s BadSize = s

pub stmt_site : (g : Sight) (c : Stmt) → names_again g c ≡ false → sets_missing g c ≡ false → ill_set g c ≡ false → sets_fixed g c ≡ false → answers_early g c ≡ false → pushes_walked g c ≡ false → tells_much c ≡ false
    → (r : Rule) → broken r (at_stmt g c) ≡ false
stmt_site g c n m k f a p t NameTwice = n
stmt_site g c n m k f a p t NoSuchName = m
stmt_site g c n m k f a p t WidthDiffers = refl
stmt_site g c n m k f a p t KindDiffers = k
stmt_site g c n m k f a p t NotWritable = f
stmt_site g c n m k f a p t WrongBlock = a
stmt_site g c n m k f a p t LoopListChanged = p
stmt_site g c n m k f a p t BadSize = t

pub decl_site : (before : List Decl) (d : Decl) → declared_twice before d.name ≡ false → ill_declared d ≡ false → bad_shape d.shape ≡ false → (r : Rule) → broken r (at_decl before d) ≡ false
decl_site before d n k s NameTwice = n
decl_site before d n k s NoSuchName = refl
decl_site before d n k s WidthDiffers = refl
decl_site before d n k s KindDiffers = k
decl_site before d n k s NotWritable = refl
decl_site before d n k s WrongBlock = refl
decl_site before d n k s LoopListChanged = refl
decl_site before d n k s BadSize = s
