-- By the rules of types a header variable's path begins with a fixed root.
use Rattle.std.proofs.Common.{◌≡◌, codes, ℕ, List, [], ◌∷◌, Bool, true, false, ◌&&◌, ◌||◌, not, cond, refl, sym, subst}
use Rattle.lex_text.specs.Names.{same_text, parent}
use Rattle.indus_tree.specs.Tree.{Decl, Shape}
use Rattle.indus_tree.specs.declared.tree.DeclKind.{DeclKind}
use Rattle.indus_tree.specs.declared.tree.DeclKind.TheVariants.{Tele, Sensor, Header, Control}
use Rattle.indus_rules.specs.Rules.{bad_path, ill_headed, is_truth, same_truth}
use Rattle.p4_tree.specs.Tree as p4
use Rattle.lowered_code.specs.Environment.{view_of}
use Rattle.whole_properties.specs.Whole.{Given, decls}
use Rattle.whole_properties.specs.Asked.{IsGiven}
use Rattle.monitor_trees.specs.Stage.{IsRooted, AreRooted}
use Rattle.indus_types.proofs.Widths.{neither, twice_not}
use Rattle.indus_types.proofs.Checked.{each_fine}
use Rattle.indus_rules.specs.Rules.{misshapen, ill_started}
use Rattle.indus_rules.specs.declared.rule.Rule.TheVariants.{KindDiffers}
use Rattle.flat_laws.proofs.Typed.{IsFineDecl, fine_decl}
use Rattle.p4_typing_laws.proofs.CallCounts.{text_is}
use Rattle.whole_properties.proofs.Facts.{kept_header}
use Rattle.monitor_trees.specs.Stage.{is_root}

root_at : (x y : List ℕ) → same_text x y ≡ true → is_root y ≡ true → is_root x ≡ true
root_at x y e h = subst (λ z. is_root z ≡ true) (sym (text_is x y e)) h

one_of : (x y z : List ℕ) → (same_text x y || same_text x z) ≡ true → is_root y ≡ true → is_root z ≡ true → is_root x ≡ true
one_of x y z h k l = go (same_text x y) refl h
  where
    go : (b : Bool) → same_text x y ≡ b → (b || same_text x z) ≡ true → is_root x ≡ true
    go true e h = root_at x y e k
    go false e h = root_at x z h l

left_of : (a b : Bool) → (a && b) ≡ true → a ≡ true
left_of true b h = refl
left_of false b h = absurd (cc h)

path_rooted : (b : Bool) (xs : List (List ℕ)) → bad_path xs b ≡ false → IsRooted (cond b (p4.valid 0 (parent xs)) (p4.path 0 xs))
path_rooted true (r ∷ h ∷ f ∷ []) k = root_at r (codes "hdr") (left_of (same_text r (codes "hdr")) (same_text f (codes "isValid")) (twice_not (same_text r (codes "hdr") && same_text f (codes "isValid")) k)) refl
path_rooted false (r ∷ f ∷ []) k = one_of r (codes "meta") (codes "standard_metadata") (twice_not (same_text r (codes "meta") || same_text r (codes "standard_metadata")) k) refl refl
path_rooted false (r ∷ h ∷ f ∷ []) k = root_at r (codes "hdr") (twice_not (same_text r (codes "hdr")) k) refl
path_rooted true [] k = absurd (cc k)
path_rooted true (r ∷ []) k = absurd (cc k)
path_rooted true (r ∷ f ∷ []) k = absurd (cc k)
path_rooted true (r ∷ h ∷ f ∷ g ∷ xs) k = absurd (cc k)
path_rooted false [] k = absurd (cc k)
path_rooted false (r ∷ []) k = absurd (cc k)
path_rooted false (r ∷ h ∷ f ∷ g ∷ xs) k = absurd (cc k)

headed_well : (k : DeclKind) (s : Shape) (xs : List (List ℕ)) (b : Bool) → k ≡ Header → ill_headed k s xs b ≡ false → bad_path xs b ≡ false
headed_well Header s xs b e h = (neither (bad_path xs b) (not (same_truth (is_truth s) b)) h).0
headed_well Tele s xs b e h = absurd (cc e)
headed_well Sensor s xs b e h = absurd (cc e)
headed_well Control s xs b e h = absurd (cc e)

decl_rooted : (d : Decl) → IsFineDecl d → d.kind ≡ Header → IsRooted (view_of d)
decl_rooted d f k =
    path_rooted d.valid d.path
    (headed_well d.kind d.shape d.path d.valid k
    (neither (misshapen d.kind d.shape || ill_started d.kind d.start) (ill_headed d.kind d.shape d.path d.valid) (f.fine KindDiffers)).1)

pub are_rooted : (g : Given) → IsGiven g → AreRooted (decls g)
are_rooted g i x d is k = decl_rooted d (fine_decl g.property.decls [] x d (each_fine g.property i.plain.typed).1.0 (kept_header g i x d is k)) k
