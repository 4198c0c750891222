-- What holds of a property that is given, all by the rules of types and its weight.
use Rattle.std.proofs.Common.{◌≡◌, ℕ, ◌+◌, ◌-◌, ◌*◌, ◌≤◌, ◌^◌, List, [], ◌∷◌, ◌++◌, length, true, false, Some, refl, sym, ◌∙◌, subst, arith, append-nil}
use Rattle.std.specs.List.{AllByRecursion}
use Rattle.bit_values.specs.Widths.{sound_width}
use Rattle.p4_meaning.specs.Parsing.{width_sum}
use Rattle.network_run.specs.PathMeaning.{Reads}
use Rattle.indus_tree.specs.Tree as indus
use Rattle.indus_tree.specs.Tree.{Decl, Property}
use Rattle.indus_tree.specs.State.{Contents, members, Held, Hop, lookup, shape_width}
use Rattle.indus_tree.specs.Law.{hop_for}
use Rattle.indus_tree.specs.declared.tree.DeclKind.{DeclKind}
use Rattle.indus_tree.specs.declared.tree.DeclKind.TheVariants.{Tele, Sensor, Header, Control}
use Rattle.indus_scopes.specs.declared.scope.Block.TheVariants as block
use Rattle.indus_rules.specs.Rules.{IsWellTyped}
use Rattle.indus_types.specs.StaticWidths.{ShowsDeclared}
use Rattle.indus_types.specs.Views.{GiveDeclared, HoldDeclared}
use Rattle.indus_types.proofs.Checked.{each_fine}
use Rattle.indus_types.proofs.SoundSights.{block_sound}
use Rattle.indus_types.proofs.ShownWidths.{hops_show}
use Rattle.flat_laws.specs.Numbered.{numbered_hop}
use Rattle.flat_laws.specs.Typing.{flat_property}
use Rattle.flat_laws.proofs.FormLemmas.{flat_code_is_flat}
use Rattle.flat_laws.proofs.FineProperty.{flat_code_is_well_typed}
use Rattle.monitor_laws.specs.Telemetry.{AreFor, AreApart, mark_field, zeros}
use Rattle.monitor_laws.specs.MonitorLaws.{IsView}
use Rattle.lowered_code.specs.Environment.{view_of}
use Rattle.lowered_code.specs.Statements.{kept_types, block_end, block_numbers, block_lookups}
use Rattle.lowered_code.specs.Suiting.{IsScalar, BlockSuits}
use Rattle.lowered_code.specs.Standing.{HopFits}
use Rattle.lowered_code.specs.Lookups.{IsLookup}
use Rattle.lowered_code.proofs.Rising.{block_rises, lookups_rising, block_read}
use Rattle.lookup_tables.specs.Tables.{Lookup}
use Rattle.lookup_tables.specs.Finding.{AreNumbered}
use Rattle.whole_properties.specs.Whole.{Given, view_in, views_in, tele_fields, tele_words, tele_room, fill_fields, decls, init, tele, check, tele_first, check_first, lookups_of, lookups, fields, words, IsFitTele, FitContents}
use Rattle.whole_properties.specs.Asked.{IsGiven, FitsView}
use Rattle.whole_properties.proofs.Once.{AreOnce, found_all}
use Rattle.whole_properties.proofs.TelemetryWords.{for_both, tele_for, fill_for}
use Rattle.whole_properties.proofs.Declarations as declared
use Rattle.whole_properties.proofs.Declarations.{shapely, sound_widths, lookups_shaped, parts_small, tele_of, fields_apart}
use Rattle.whole_properties.proofs.CodeSuits.{block_suits}
use Rattle.whole_properties.proofs.Numbering.{numbered_behind}
use Rattle.whole_properties.proofs.FlatForms.{block_numbered, block_below}
use Rattle.whole_properties.proofs.Few.{numbers_are_few}

-- header variables read own paths
views_own :
    (ds : List Decl) → AllByRecursion IsView (views_in ds) →
    AllByRecursion (λ d. d.kind ≡ Header → IsView (view_of d)) ds
views_own [] h = tt
views_own (d ∷ ds) h = go d.kind refl h (views_own ds)
  where
    go :
        (k : DeclKind) → d.kind ≡ k → AllByRecursion IsView (view_in k d ++ views_in ds) →
        (AllByRecursion IsView (views_in ds) → AllByRecursion (λ d. d.kind ≡ Header → IsView (view_of d)) ds) → AllByRecursion (λ d. d.kind ≡ Header → IsView (view_of d)) (d ∷ ds)
    go Tele e h r = (λ k. absurd (let z : Tele ≡ Header = sym e ∙ k in cc), r h)
    go Sensor e h r = (λ k. absurd (let z : Sensor ≡ Header = sym e ∙ k in cc), r h)
    go Header e h r = (λ k. h.0, r h.1)
    go Control e h r = (λ k. absurd (let z : Control ≡ Header = sym e ∙ k in cc), r h)

-- no contents give no word that does not fit
no_contents : (n : ℕ) (ds : List Decl) → HoldDeclared n ds (λ v. members [])
no_contents n [] = tt
no_contents n (d ∷ ds) = (by_kind d.kind, no_contents (n + 1) ds)
  where
    by_kind : (k : DeclKind) → GiveDeclared k (shape_width d.shape) (members [])
    by_kind Tele = tt
    by_kind Sensor = tt
    by_kind Header = tt
    by_kind Control = tt

module _ (g : Given) (i : IsGiven g) where
  abbrev p : Property
  p = g.property

  -- the property of flat code
  abbrev q : Property
  q = flat_property p

  typed : IsWellTyped q
  typed = flat_code_is_well_typed p i.plain

  -- ---- declarations

  pub once : AreOnce p.decls
  once = declared.once p i.plain.typed

  pub scalars : (x : List ℕ) (c : Decl) → lookup (decls g) x ≡ Some c → c.kind ≡ Tele → IsScalar c.shape
  scalars x c is k = declared.scalars p.decls x c is k

  pub sound :
      (x : List ℕ) (c : Decl) → lookup (decls g) x ≡ Some c → sound_width (shape_width c.shape) ≡ shape_width c.shape
  sound x c is = sound_widths q typed x c is

  pub kept : (x : List ℕ) (c : Decl) → lookup (decls g) x ≡ Some c → (c.kind ≡ Tele → ⊥) → lookup p.decls x ≡ Some c
  kept x c is n = declared.kept p.decls once x c is n

  pub kept_header : (x : List ℕ) (c : Decl) → lookup (decls g) x ≡ Some c → c.kind ≡ Header → lookup p.decls x ≡ Some c
  kept_header x c is k = kept x c is (λ z. absurd (let e : Tele ≡ Header = sym z ∙ k in cc))

  pub kept_sensor : (x : List ℕ) (c : Decl) → lookup (decls g) x ≡ Some c → c.kind ≡ Sensor → lookup p.decls x ≡ Some c
  kept_sensor x c is k = kept x c is (λ z. absurd (let e : Tele ≡ Sensor = sym z ∙ k in cc))

  pub kept_control :
      (x : List ℕ) (c : Decl) → lookup (decls g) x ≡ Some c → c.kind ≡ Control → lookup p.decls x ≡ Some c
  kept_control x c is k = kept x c is (λ z. absurd (let e : Tele ≡ Control = sym z ∙ k in cc))

  pub own : (x : List ℕ) (c : Decl) → lookup (decls g) x ≡ Some c → c.kind ≡ Header → IsView (view_of c)
  own x c is k = found_all (λ d. d.kind ≡ Header → IsView (view_of d)) p.decls (views_own p.decls i.own_views) x c (kept_header x c is k) k

  pub looked_up : (x : List ℕ) (c : Decl) → lookup (decls g) x ≡ Some c → c.kind ≡ Control → IsLookup c.shape
  looked_up x c is k = lookups_shaped q typed x c is k

  pub few_parts : (x : List ℕ) (c : Decl) → lookup (decls g) x ≡ Some c → length (kept_types c.kind c.shape) ≤ 2 ^ 64
  few_parts x c is = let few = parts_small q typed x c is in omega (arith, few)

  -- ---- telemetry

  abbrev filled : ℕ
  filled = tele_room (tele_fields (decls g)) * 8 - (8 + width_sum (tele_fields (decls g)))

  pub fitting : (t : Held) → IsFitTele g t → AreFor (fields g) (words g t)
  fitting t f =
      for_both (tele_fields (decls g)) (fill_fields (tele_fields (decls g))) (tele_words p.decls t) (zeros (fill_fields (tele_fields (decls g))))
      (tele_for p.decls 0 t once (tele_of p i.plain.typed) f) (fill_for filled (let low : filled ≤ 128 = omega arith in low))

  pub apart : AreApart (mark_field ∷ fields g)
  apart = fields_apart (decls g) filled (declared.once q typed)

  -- ---- numbers

  pub few : block_end (decls g) (check g) (check_first g) ≤ 2 ^ 64
  few = let few = numbers_are_few g i.plain in let light = i.light in omega (arith, few, light)

  pub few_check : check_first g ≤ 2 ^ 64
  few_check = let up = block_rises (decls g) (check g) (check_first g) in omega (arith, up, few)

  pub few_tele : tele_first g ≤ 2 ^ 64
  few_tele = let up = block_rises (decls g) (tele g) (tele_first g) in omega (arith, up, few_check)

  numbered_block :
      (c : List ℕ) (ss : indus.Stmts) (n : ℕ) (rest : List Lookup) → AreNumbered (block_end (decls g) ss n) rest →
      AreNumbered n (lookups_of g c ss n ++ rest)
  numbered_block c ss n rest h =
      numbered_behind c n (block_end (decls g) ss n) (block_lookups (decls g) ss n) rest (lookups_rising (decls g) n (block_end (decls g) ss n) (block_numbers (decls g) ss n) (block_read (decls g) ss n).rising) h

  pub lookups_numbered : AreNumbered 0 (lookups g)
  lookups_numbered =
      numbered_block g.ingress (init g) 0 _
      (numbered_block g.egress (tele g) (tele_first g) _
      (subst (AreNumbered (check_first g)) (append-nil (lookups_of g g.egress (check g) (check_first g))) (numbered_block g.egress (check g) (check_first g) [] few)))

  -- ---- hops

  -- a hop shows what is declared
  pub hop_fits :
      (h : Reads Contents) → FitsView g h.view → FitContents g h.contents → HopFits (numbered_hop (hop_for p.decls h))
  hop_fits h view contents =
      record {
        words = λ x c is k. (hops_show p.decls h.view (λ v. members []) view (no_contents 0 p.decls) h.switch h.first h.last).headers x c (kept_header x c is k) k;
        gives = λ x c is k. contents x c (kept_control x c is k) k;
        sound = sound;
      }

  -- flat code suits at it
  module _ (h : Reads Contents) (fit : HopFits (numbered_hop (hop_for p.decls h))) where
    abbrev hop : Hop
    hop = numbered_hop (hop_for p.decls h)

    shows : ShowsDeclared hop.decls hop
    shows = record { headers = fit.words; contents = fit.gives }

    pub init_suits : BlockSuits hop false (init g)
    init_suits =
        block_suits p.edition block.Init hop false (λ e. refl) (shapely q typed) (block_sound q typed block.Init) shows (λ e. refl) (init g) (each_fine q typed).1.1.0
        (block_numbered p.decls once (init g) (flat_code_is_flat p.decls p.init)) (block_below (2 ^ 16) p.decls p.init [] i.reports.init)

    pub tele_suits : BlockSuits hop true (tele g)
    tele_suits =
        block_suits p.edition block.Tele hop true (λ e. absurd (cc)) (shapely q typed) (block_sound q typed block.Tele) shows (λ e. absurd (cc)) (tele g) (each_fine q typed).1.1.1.0
        (block_numbered p.decls once (tele g) (flat_code_is_flat p.decls p.tele)) (block_below (2 ^ 16) p.decls p.tele [] i.reports.tele)

    pub check_suits : BlockSuits hop true (check g)
    check_suits =
        block_suits p.edition block.Check hop true (λ e. absurd (cc)) (shapely q typed) (block_sound q typed block.Check) shows (λ e. absurd (cc)) (check g) (each_fine q typed).1.1.1.1
        (block_numbered p.decls once (check g) (flat_code_is_flat p.decls p.check)) (block_below (2 ^ 16) p.decls p.check [] i.reports.check)
