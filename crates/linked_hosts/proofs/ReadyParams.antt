-- What stands at the parameters of the parts of a well-typed program.
use Rattle.std.proofs.Common.{◌≡◌, ℕ, List, [], ◌∷◌, Bool, true, false, cond, not, Option, None, refl, sym, ap, ap₂, ◌∙◌, subst}
use Rattle.lex_text.specs.Names.{same_text}
use Rattle.p4_tree.specs.declared.program.Param.{Param}
use Rattle.p4_meaning.specs.Standard.{headers_root, metadata_root, standard_root}
use Rattle.p4_meaning.specs.Scope as meaning
use Rattle.p4_meaning.specs.Scope.{Inner, Roots, root_of, is_inner, inner_name, first_name}
use Rattle.p4_scopes.specs.Scopes.{is_missing, Scope, What, value, behind, declare}
use Rattle.p4_declaration_rules.specs.Parsers.{way_access, with_ways}
use Rattle.p4_typing_laws.proofs.Fine.{twice_not}
use Rattle.p4_typing_laws.proofs.CallCounts.{text_is, text_same}
use Rattle.p4_typing_laws.proofs.CountedNames.{was_missing}
use Rattle.p4_typing_laws.proofs.FullNames.{other_text}
use Rattle.own_programs.proofs.Names.{broken}
use Rattle.own_programs.proofs.Places.{is_held}
use Rattle.linked_programs.specs.Gives.{StandForRoots}
use Rattle.linked_hosts.proofs.Spots.{NoSum, sum_declared, ReadsBy}

pub turned : (x y : List ℕ) → same_text x y ≡ false → same_text y x ≡ false
turned x y h = other_text y x (λ e. broken (sym (text_same x y (sym e)) ∙ h))

-- ---- roots

pub record AreApart (r : Roots) : Type 0 where
  pub one : same_text r.headers r.metadata ≡ false
  pub two : same_text r.headers r.standard ≡ false
  pub three : same_text r.metadata r.standard ≡ false

root_first : (sd : meaning.Scope) → sd.inner ≡ None → (x : List ℕ) → first_name sd x ≡ root_of sd.roots x
root_first sd outer x = ap (λ (o : Option Inner). cond (is_inner o x) (inner_name o sd.control x) (root_of sd.roots x)) outer

pub headers_stand : (sd : meaning.Scope) → sd.inner ≡ None → first_name sd sd.roots.headers ≡ headers_root
headers_stand sd outer =
    root_first sd outer sd.roots.headers
    ∙ ap (λ (b : Bool). cond b headers_root (cond (same_text sd.roots.metadata sd.roots.headers) metadata_root (cond (same_text sd.roots.standard sd.roots.headers) standard_root sd.roots.headers))) (text_same sd.roots.headers sd.roots.headers refl)

pub metadata_stands : (sd : meaning.Scope) → sd.inner ≡ None → same_text sd.roots.headers sd.roots.metadata ≡ false → first_name sd sd.roots.metadata ≡ metadata_root
metadata_stands sd outer a =
    root_first sd outer sd.roots.metadata
    ∙ ap₂ (λ (b c : Bool). cond b headers_root (cond c metadata_root (cond (same_text sd.roots.standard sd.roots.metadata) standard_root sd.roots.metadata))) a (text_same sd.roots.metadata sd.roots.metadata refl)

pub roots_stand : (sd : meaning.Scope) → sd.inner ≡ None → AreApart sd.roots → StandForRoots sd.roots sd
roots_stand sd outer a =
    record {
      headers = headers_stand sd outer;
      metadata = metadata_stands sd outer a.one;
      standard = root_first sd outer sd.roots.standard ∙ (λ i. cond (a.two i) headers_root (cond (a.three i) metadata_root (cond (text_same sd.roots.standard sd.roots.standard refl i) standard_root sd.roots.standard)));
    }

-- ---- reads

pub reads_none : (r : Roots) (s : Scope) (sc : meaning.Scope) → ((x y : List ℕ) (ys : List (List ℕ)) → is_held (s (x ∷ y ∷ ys)) ≡ false) → ReadsBy r s sc
reads_none r s sc h = record { only = λ x y ys k. broken (sym k ∙ h x y ys) }

pub reads_declared : (r : Roots) (s : Scope) (sc : meaning.Scope) (n : List ℕ) (w : What) → ReadsBy r s sc → same_text standard_root (first_name sc n) ≡ same_text r.standard n → ReadsBy r (declare s n w) sc
unfolding declare
reads_declared r s sc n w b e = record { only = λ x y ys h. go x y ys (same_text n x) refl h }
  where
    go : (x y : List ℕ) (ys : List (List ℕ)) (c : Bool) → same_text n x ≡ c → is_held (cond c (behind s w (y ∷ ys)) (s (x ∷ y ∷ ys))) ≡ true → same_text standard_root (first_name sc x) ≡ same_text r.standard x
    go x y ys true t h = subst (λ (z : List ℕ). same_text standard_root (first_name sc z) ≡ same_text r.standard z) (text_is n x t) e
    go x y ys false t h = b.only x y ys h

pub reads_silent : (r : Roots) (s : Scope) (sc : meaning.Scope) (n : List ℕ) (w : What) → ReadsBy r s sc → ((y : List ℕ) (ys : List (List ℕ)) → is_held (behind s w (y ∷ ys)) ≡ false) → ReadsBy r (declare s n w) sc
unfolding declare
reads_silent r s sc n w b e = record { only = λ x y ys h. go x y ys (same_text n x) h }
  where
    go : (x y : List ℕ) (ys : List (List ℕ)) (c : Bool) → is_held (cond c (behind s w (y ∷ ys)) (s (x ∷ y ∷ ys))) ≡ true → same_text standard_root (first_name sc x) ≡ same_text r.standard x
    go x y ys true h = broken (sym h ∙ e y ys)
    go x y ys false h = b.only x y ys h

pub sums_ways : (qs : List Param) (s : Scope) → NoSum s → NoSum (with_ways s qs)
sums_ways [] s h = h
sums_ways (q ∷ qs) s h = sums_ways qs (declare s q.name (value (way_access q.way) q.ty)) (sum_declared s q.name (value (way_access q.way) q.ty) h)

-- the name of a root, where it is not the standard metadata's
pub headers_read : (r : Roots) (sc : meaning.Scope) (n : List ℕ) → first_name sc n ≡ headers_root → same_text r.standard n ≡ false → same_text standard_root (first_name sc n) ≡ same_text r.standard n
headers_read r sc n a b = ap (same_text standard_root) a ∙ sym b

pub metadata_read : (r : Roots) (sc : meaning.Scope) (n : List ℕ) → first_name sc n ≡ metadata_root → same_text r.standard n ≡ false → same_text standard_root (first_name sc n) ≡ same_text r.standard n
metadata_read r sc n a b = ap (same_text standard_root) a ∙ sym b

standard_read : (r : Roots) (sc : meaning.Scope) → first_name sc r.standard ≡ standard_root → same_text standard_root (first_name sc r.standard) ≡ same_text r.standard r.standard
standard_read r sc a = ap (same_text standard_root) a ∙ sym (text_same r.standard r.standard refl)

-- ---- headers, metadata and standard metadata, one behind the other

module _ (s : Scope) (h m t : Param) where
  abbrev H : What
  H = value (way_access h.way) h.ty

  abbrev M : What
  M = value (way_access m.way) m.ty

  abbrev T : What
  T = value (way_access t.way) t.ty

  abbrev s1 : Scope
  s1 = declare s h.name H

  abbrev s2 : Scope
  s2 = declare s1 m.name M

  pub three_apart : not (is_missing (s1 (m.name ∷ []))) ≡ false → not (is_missing (s2 (t.name ∷ []))) ≡ false → AreApart (record { headers = h.name; metadata = m.name; standard = t.name })
  three_apart a b =
      (let wm = was_missing s h.name H refl m.name (twice_not _ a) in
      let wt = was_missing s1 m.name M refl t.name (twice_not _ b) in
      let ws = was_missing s h.name H refl t.name wt.before in
      record { one = other_text h.name m.name wm.apart; two = other_text h.name t.name ws.apart; three = other_text m.name t.name wt.apart })

  pub missing_first : not (is_missing (s2 (t.name ∷ []))) ≡ false → is_missing (s (t.name ∷ [])) ≡ true
  missing_first b =
      (let wt = was_missing s1 m.name M refl t.name (twice_not _ b) in
      (was_missing s h.name H refl t.name wt.before).before)

  pub three_read : (sc : meaning.Scope) → sc.inner ≡ None → sc.roots ≡ record { headers = h.name; metadata = m.name; standard = t.name } → AreApart (record { headers = h.name; metadata = m.name; standard = t.name })
      → ReadsBy (record { headers = h.name; metadata = m.name; standard = t.name }) s sc → ReadsBy (record { headers = h.name; metadata = m.name; standard = t.name }) (declare s2 t.name T) sc
  three_read sc outer is a b =
      (let r : Roots = record { headers = h.name; metadata = m.name; standard = t.name } in
      let k : StandForRoots r sc = subst (λ (q : Roots). StandForRoots q sc) is (roots_stand sc outer (subst AreApart (sym is) a)) in
      reads_declared r s2 sc t.name T
      (reads_declared r s1 sc m.name M
      (reads_declared r s sc h.name H b (headers_read r sc h.name k.headers (turned h.name t.name a.two)))
      (metadata_read r sc m.name k.metadata (turned m.name t.name a.three)))
      (standard_read r sc k.standard))
