-- Names that are declared, each once.
use Rattle.std.proofs.Common.{◌≡◌, ℕ, List, [], ◌∷◌, Bool, true, false, cond, Some, None, refl, sym, ap, ◌∙◌, subst}
use Rattle.std.specs.List.{AllByRecursion}
use Rattle.lex_text.specs.Names.{same_text}
use Rattle.indus_tree.specs.Tree.{Decl}
use Rattle.indus_tree.specs.State.{lookup}
use Rattle.own_code.proofs.Apart.{text_decides}
use Rattle.flat_laws.proofs.NameLemmas.{same_self, apart}
use Rattle.whole_properties.proofs.Lists.{all_weaker}

-- each name is declared once
abbrev pub AreOnce : List Decl → Type 0
AreOnce [] = Unit {0}
AreOnce (d ∷ ds) = (lookup ds d.name ≡ None) × AreOnce ds

-- what holds of all declarations holds of one that is found
pub found_all :
    (P : Decl → Type 0) (ds : List Decl) → AllByRecursion P ds → (x : List ℕ) (c : Decl) → lookup ds x ≡ Some c → P c
found_all P [] h x c is = absurd (cc)
found_all P (d ∷ ds) h x c is = go (same_text d.name x) is (found_all P ds h.1 x c)
  where
    go : (b : Bool) → cond b (Some d) (lookup ds x) ≡ Some c → (lookup ds x ≡ Some c → P c) → P c
    go true i j = subst P (let same : d ≡ c = cc in same) h.0
    go false i j = j i

-- it has the name
pub name_found : (ds : List Decl) (x : List ℕ) (c : Decl) → lookup ds x ≡ Some c → c.name ≡ x
name_found [] x c is = absurd (cc)
name_found (e ∷ ds) x c is = go (same_text e.name x) refl is (name_found ds x c)
  where
    go :
        (b : Bool) → same_text e.name x ≡ b → cond b (Some e) (lookup ds x) ≡ Some c →
        (lookup ds x ≡ Some c → c.name ≡ x) → c.name ≡ x
    go true k i j = let same : e ≡ c = cc in ap (λ (d : Decl). d.name) (sym same) ∙ (text_decides e.name x).0 k
    go false k i j = j i

-- ---- a declaration in front of others

pub first_found : (e : Decl) (ds : List Decl) → lookup (e ∷ ds) e.name ≡ Some e
first_found e ds = ap (λ b. cond b (Some e) (lookup ds e.name)) (same_self e.name)

pub other_name :
    (e : Decl) (ds : List Decl) → lookup ds e.name ≡ None → (x : List ℕ) (d : Decl) → lookup ds x ≡ Some d →
    same_text e.name x ≡ false
other_name e ds o x d is = apart e.name x (λ same. absurd (let two : None ≡ Some d = sym o ∙ ap (lookup ds) same ∙ is in cc))

pub behind_found :
    (e : Decl) (ds : List Decl) → lookup ds e.name ≡ None → (x : List ℕ) (d : Decl) → lookup ds x ≡ Some d →
    lookup (e ∷ ds) x ≡ Some d
behind_found e ds o x d is = ap (λ b. cond b (Some e) (lookup ds x)) (other_name e ds o x d is) ∙ is

-- each is found by its name
pub each_found : (ds : List Decl) → AreOnce ds → AllByRecursion (λ d. lookup ds d.name ≡ Some d) ds
each_found [] o = tt
each_found (d ∷ ds) o = (first_found d ds, all_weaker (λ e. lookup ds e.name ≡ Some e) (λ e. lookup (d ∷ ds) e.name ≡ Some e) (λ e h. behind_found d ds o.0 e.name e h) ds (each_found ds o.1))
