-- The queued stores: both programs declare the same paths, but for the telemetry and the length without it, and so keep
-- the same of them.
use Rattle.std.proofs.Common.{◌≡◌, ℕ, List, [], ◌∷◌, ◌++◌, Bool, true, false, cond, ◌||◌, Option, None, refl, sym, ap, ap₂, ◌∙◌, subst}
use Rattle.std.specs.List.{AllByRecursion}
use Rattle.bit_values.specs.Bits.{Word, word, cast}
use Rattle.lex_text.specs.Names.{same_path}
use Rattle.p4_meaning.specs.Standard.{metadata_root, standard_root, packet_length, egress_spec, egress_port, standard_paths}
use Rattle.p4_meaning.specs.Store.{Store, set_value}
use Rattle.p4_meaning.specs.Parsing.{Field}
use Rattle.p4_meaning.specs.Parts.{Parts}
use Rattle.p4_meaning.specs.Pass.{Kept, is_field_of, is_header_field, is_one_path, is_declared_path, is_declared_header, declared, to_egress}
use Rattle.own_code.specs.Regions.{is_free}
use Rattle.own_code.specs.Relations.{bare, Alike}
use Rattle.own_code.proofs.Apart.{path_decides, free_apart}
use Rattle.own_code.proofs.Own.{set_alike}
use Rattle.packet_lengths.specs.Lengths.{length_path, plain_store}
use Rattle.monitor_laws.specs.Names.{tele_header}
use Rattle.monitor_laws.specs.Telemetry.{mark_field}
use Rattle.monitor_laws.specs.Monitor.{Monitor}
use Rattle.monitor_laws.specs.MonitorLaws.{HasTele}
use Rattle.monitor_laws.proofs.Fields.{has_moved}
use Rattle.linked_halves.specs.LinkedParts.{Declarations, core_parts}

or_true : (b : Bool) → (b || true) ≡ true
or_true true = refl
or_true false = refl

kept_none : {A : Type 0} (b : Bool) → cond b (let n : Option A = None in n) None ≡ None
kept_none true = refl
kept_none false = refl

-- a free path is no field of the telemetry
tele_not_field : (fs : List Field) (q : List (List ℕ)) → is_free q ≡ true → is_field_of tele_header fs q ≡ false
tele_not_field [] q i = refl
tele_not_field (f ∷ fs) q i = ap₂ (λ a b. a || b) (free_apart (tele_header ++ f.name ∷ []) q refl i) (tele_not_field fs q i)

-- a header's fields are its fields
abbrev AreFieldsOf : List Field → List Field → Type 0
AreFieldsOf all fs = AllByRecursion (λ f. is_field_of tele_header all (tele_header ++ f.name ∷ []) ≡ true) fs

more_fields : (g : Field) (all fs : List Field) → AreFieldsOf all fs → AreFieldsOf (g ∷ all) fs
more_fields g all [] h = tt
more_fields g all (f ∷ fs) h =
    (ap (λ b. same_path (tele_header ++ g.name ∷ []) (tele_header ++ f.name ∷ []) || b) h.0 ∙ or_true (same_path (tele_header ++ g.name ∷ []) (tele_header ++ f.name ∷ [])), more_fields g all fs h.1)

own_fields : (fs : List Field) → AreFieldsOf fs fs
own_fields [] = tt
own_fields (f ∷ fs) =
    let p = tele_header ++ f.name ∷ [] in
    (ap (λ b. b || is_field_of tele_header fs p) ((path_decides p p).1 refl), more_fields f fs fs (own_fields fs))

store_same : (v v' : List (List ℕ) → Word) (h : List (List ℕ) → Option Bool) → v ≡ v' → (let a : Store = record { values = v; headers = h } in let b : Store = record { values = v'; headers = h } in a ≡ b)
store_same v v' h e = λ i. record { values = e i; headers = h }

module _ {T Z C : Type 0} (m : Monitor T Z C) (sw : ℕ) (links : List ℕ) (f : Parts) (decls : Declarations) where
  abbrev core : Parts
  core = core_parts m sw links f decls

  path_same : (q : List (List ℕ)) → is_free q ≡ true → is_declared_path core q ≡ is_declared_path f q
  path_same q i =
      ap₂ (λ a b. is_one_path standard_paths q || ((a || is_field_of (metadata_root ∷ []) f.metadata q) || (b || is_header_field f.headers q)))
      (free_apart length_path q refl i) (tele_not_field (mark_field ∷ m.fields) q i)

  header_same : (q : List (List ℕ)) → is_free q ≡ true → is_declared_header core.headers q ≡ is_declared_header f.headers q
  header_same q i = ap (λ b. b || is_declared_header f.headers q) (free_apart tele_header q refl i)

  pub egress_alike : (x y : Store) → Alike (bare x) (bare y) → Alike (bare (to_egress f x)) (bare (to_egress core y))
  egress_alike x y h =
      let kept : Alike (bare (declared f x)) (bare (declared core y)) =
      record {
        values = λ q i. ap₂ (λ b w. cond b w (word 1 0)) (path_same q i) (h.values q i);
        headers = λ q o. ap₂ (λ b v. cond b v None) (header_same q o) (h.headers q o);
        cells = λ n i. refl;
        digests = refl;
      } in
      let u = word 9 (cast 9 (x.values egress_spec).value) in
      let v = word 9 (cast 9 (y.values egress_spec).value) in
      let one = set_alike (bare (declared f x)) (bare (declared core y)) egress_port u v kept (ap (λ (w : Word). word 9 (cast 9 w.value)) (h.values egress_spec refl)) in
      set_alike (bare (set_value (declared f x) egress_port u)) (bare (set_value (declared core y) egress_port v)) egress_spec (word 9 0) (word 9 0) one refl

  -- the telemetry is declared, and so is kept
  tele_declared : (q : List (List ℕ)) → is_one_path standard_paths q ≡ false → is_field_of tele_header (mark_field ∷ m.fields) q ≡ true → is_declared_path core q ≡ true
  tele_declared q s h =
      ap₂ (λ a b. a || ((same_path length_path q || is_field_of (metadata_root ∷ []) f.metadata q) || (b || is_header_field f.headers q))) s h
      ∙ or_true (same_path length_path q || is_field_of (metadata_root ∷ []) f.metadata q)

  tele_kept : (fs : List Field) (s : Store) → AreFieldsOf (mark_field ∷ m.fields) fs → AllByRecursion (λ g. (to_egress core s).values (tele_header ++ g.name ∷ []) ≡ s.values (tele_header ++ g.name ∷ [])) fs
  tele_kept [] s h = tt
  tele_kept (g ∷ fs) s h = (ap (λ b. cond b (s.values (tele_header ++ g.name ∷ [])) (word 1 0)) (tele_declared (tele_header ++ g.name ∷ []) refl h.0), tele_kept fs s h.1)

  pub egress_tele : (Fit : T → Type 0) (Keeps : Z → (ℕ → C) → Kept → Type 0) (s : Store) (t : T) → HasTele m Fit Keeps s t → HasTele m Fit Keeps (to_egress core s) t
  egress_tele Fit Keeps s t h =
      let all = tele_kept (mark_field ∷ m.fields) s (own_fields (mark_field ∷ m.fields)) in
      record {
        plain = ap (λ o. cond (is_declared_header core.headers []) o None) h.plain ∙ kept_none (is_declared_header core.headers []);
        standard = ap (λ o. cond (is_declared_header core.headers (standard_root ∷ [])) o None) h.standard ∙ kept_none (is_declared_header core.headers (standard_root ∷ []));
        valid = h.valid;
        mark = all.0 ∙ h.mark;
        words = has_moved tele_header m.fields (m.words t) s (to_egress core s) all.1 h.words;
        fits = h.fits;
      }

  -- a root that is no header still is none
  pub egress_meta : (s : Store) → s.headers (metadata_root ∷ []) ≡ None → (to_egress core s).headers (metadata_root ∷ []) ≡ None
  egress_meta s h = ap (λ o. cond (is_declared_header core.headers (metadata_root ∷ [])) o None) h ∙ kept_none (is_declared_header core.headers (metadata_root ∷ []))

  -- the plain length is put in its place before or after the packet is queued
  pub egress_plain : (s : Store) → to_egress core (plain_store s) ≡ plain_store (to_egress core s)
  egress_plain s = store_same (to_egress core (plain_store s)).values (plain_store (to_egress core s)).values (to_egress core s).headers (λ i p. at p (same_path packet_length p) refl i)
    where
      at : (p : List (List ℕ)) (t : Bool) → same_path packet_length p ≡ t → (to_egress core (plain_store s)).values p ≡ (plain_store (to_egress core s)).values p
      at p true e = subst (λ q. (to_egress core (plain_store s)).values q ≡ (plain_store (to_egress core s)).values q) ((path_decides packet_length p).0 e) refl
      at p false e =
          ap (λ b. cond (same_path egress_spec p) (word 9 0) (cond (same_path egress_port p) (word 9 (cast 9 (s.values egress_spec).value)) (cond (is_declared_path core p) (cond b (s.values length_path) (s.values p)) (word 1 0)))) e
          ∙ sym (ap (λ t. cond t ((to_egress core s).values length_path) ((to_egress core s).values p)) e)
