-- A part of a property: with which state it begins, what serves its reads, and what its end says of the monitor.
use Rattle.std.proofs.Common.{◌≡◌, ℕ, zero, suc, ◌<◌, ◌^◌, List, [], ◌∷◌, ◌++◌, map, Bool, true, false, Option, Some, None, refl, sym, ap, ◌∙◌, subst, arith, append-nil}
use Rattle.std.specs.List.{filter, AllByRecursion}
use Rattle.std.proofs.lemmas.List.Elements.{All-nil, All-cons}
use Rattle.bit_values.specs.Bits.{Word}
use Rattle.bit_values.specs.Widths.{sound_width}
use Rattle.p4_meaning.specs.Store.{Store}
use Rattle.p4_meaning.specs.Value as p4v
use Rattle.p4_meaning.specs.Statements.{Run, Ended, Calls}
use Rattle.p4_meaning.specs.Parsing.{Field}
use Rattle.p4_meaning.specs.Tables.{Tables}
use Rattle.p4_meaning.proofs.Words.{sound, sound_wide, sound_narrow}
use Rattle.network_run.specs.PathMeaning.{Reads, Doing, nothing_yet}
use Rattle.indus_tree.specs.Tree as indus
use Rattle.indus_tree.specs.Tree.{Shape, one, list, set, dict, Decl, Property}
use Rattle.indus_tree.specs.State.{Contents, Hop, Held, lookup, shape_width, width_of}
use Rattle.indus_tree.specs.Start.{start_word}
use Rattle.indus_tree.specs.Reads.{scalar}
use Rattle.indus_tree.specs.Hops.{variable_number, contents_in}
use Rattle.indus_tree.specs.Shapes.{HasWidth, IsHeld, IsTeleCount, AreShaped}
use Rattle.indus_tree.specs.Law.{hop_for}
use Rattle.indus_tree.specs.declared.tree.DeclKind.{DeclKind}
use Rattle.indus_tree.specs.declared.tree.DeclKind.TheVariants.{Tele, Sensor, Header, Control}
use Rattle.indus_scopes.specs.Scopes.{Sight}
use Rattle.indus_scopes.specs.declared.scope.Block.TheVariants as block
use Rattle.indus_rules.specs.Sites.{sight}
use Rattle.lower_lists.specs.Names.{item_name, count_name}
use Rattle.flat_laws.specs.Numbered.{numbered_hop, Holds, Numbers}
use Rattle.flat_laws.proofs.Roles.{IsList}
use Rattle.flat_laws.proofs.Values.{IsReady, count_found, item_found, scalar_found, kept_found}
use Rattle.flat_laws.proofs.Typed.{ready}
use Rattle.sensor_registers.specs.Registers.{cell_value}
use Rattle.own_code.specs.Relations.{is_report}
use Rattle.monitor_laws.specs.Names.{tele_header}
use Rattle.monitor_laws.specs.Telemetry.{AreFor, HasWords, zeros}
use Rattle.monitor_laws.specs.Monitor.{fields_of}
use Rattle.monitor_laws.specs.MonitorLaws.{MeansTops, StandsFor, Does, Flags, report_digest}
use Rattle.monitor_laws.proofs.Frames.{others_same}
use Rattle.lowered_code.specs.Names.{tele_name, table_name}
use Rattle.lowered_code.specs.Statements.{Var, block_numbers, vars_in, block_lookups}
use Rattle.lowered_code.specs.Suiting.{IsScalar}
use Rattle.lowered_code.specs.Standing.{Setting, HasWidths, fill_path, Begins, Stands, Ends}
use Rattle.lowered_code.specs.Lookups.{Applied, Finds, AreServed}
use Rattle.lowered_code.proofs.Served.{all_left, all_right}
use Rattle.lookup_tables.specs.Tables.{Lookup, entries_for}
use Rattle.lookup_tables.specs.Finding.{IsSpare, CanBeFound, TableFinds}
use Rattle.lookup_tables.proofs.Finding.{tables_find}
use Rattle.whole_properties.specs.Whole.{Given, tele_field, tele_fields, fill_field, fill_fields, tele_words, decls, lookups_of, lookups, fields, words, lower_monitor, IsFitTele, Keeps}
use Rattle.whole_properties.specs.Asked.{IsGiven, FitsView}
use Rattle.whole_properties.proofs.Lists.{all_unmapped}
use Rattle.whole_properties.proofs.Once.{found_all, name_found}
use Rattle.whole_properties.proofs.TelemetryFields.{scalar_path, HoldsStore, has_left, has_both, words_from, words_to, words_long}
use Rattle.whole_properties.proofs.HeaderWords.{view_is}
use Rattle.whole_properties.proofs.Numbering.{lookup_of}
use Rattle.whole_properties.proofs.Facts.{once, scalars, sound as sound_here, kept_header, kept_sensor, kept_control, own, looked_up, fitting, lookups_numbered, hop_fits}

-- ---- words

-- variables that are 0 have their widths
fresh_widths :
    (vars : List Var) (s : Store) → HasWords [] (fields_of vars) (zeros (fields_of vars)) s → HasWidths vars s
fresh_widths [] s h = tt
fresh_widths (v ∷ vs) s h = (ap (λ (w : Word). w.width) h.0 ∙ sound (sound_width (p4v.width_of v.0)) (sound_wide (p4v.width_of v.0)) (sound_narrow (p4v.width_of v.0)), fresh_widths vs s h.1)

-- a field holds a word of its width
abbrev IsFilled : Store → Field → Type 0
IsFilled s f = ((s.values (tele_header ++ f.name ∷ [])).width ≡ f.width) × ((s.values (tele_header ++ f.name ∷ [])).value < 2 ^ f.width)

each_field :
    (fs : List Field) (ws : List Word) (s : Store) → AreFor fs ws → HasWords tele_header fs ws s →
    AllByRecursion (IsFilled s) fs
each_field [] [] s a h = tt
each_field [] (w ∷ ws) s a h = absurd a
each_field (f ∷ fs) [] s a h = absurd a
each_field (f ∷ fs) (w ∷ ws) s a h =
    ((ap (λ (u : Word). u.width) h.0 ∙ a.0, subst (λ n. (s.values (tele_header ++ f.name ∷ [])).value < 2 ^ n) a.0 (subst (λ (u : Word). u.value < 2 ^ w.width) (sym h.0) a.1)), each_field fs ws s a.2 h.1)

-- what holds of all fields holds of that of a numbered scalar
field_at :
    (P : Field → Type 0) (ds : List Decl) → AllByRecursion P (tele_fields ds) →
    AllByRecursion (λ d. d.kind ≡ Tele → P (record { name = tele_name d.name; width = shape_width d.shape })) ds
field_at P [] h = tt
field_at P (e ∷ ds) h = (first e.kind refl (all_left P (tele_field e.kind e) (tele_fields ds) h), field_at P ds (all_right P (tele_field e.kind e) (tele_fields ds) h))
  where
    first :
        (k : DeclKind) → e.kind ≡ k → AllByRecursion P (tele_field k e) → e.kind ≡ Tele →
        P (record { name = tele_name e.name; width = shape_width e.shape })
    first Tele q h k = h.0
    first Sensor q h k = absurd (let z : Tele ≡ Sensor = sym k ∙ q in cc)
    first Header q h k = absurd (let z : Tele ≡ Header = sym k ∙ q in cc)
    first Control q h k = absurd (let z : Tele ≡ Control = sym k ∙ q in cc)

fill_same :
    (w : ℕ) (s r : Store) → r.values fill_path ≡ s.values fill_path →
    HasWords tele_header (fill_field w) (zeros (fill_field w)) s →
    HasWords tele_header (fill_field w) (zeros (fill_field w)) r
fill_same zero s r e h = tt
fill_same (suc w) s r e h = (e ∙ h.0, tt)

-- ---- counts

one_count : (s : Shape) → IsScalar s → IsTeleCount s 1
one_count (one t) i = refl
one_count (list t n) i = absurd i
one_count (set ks) i = absurd i
one_count (dict ks t) i = absurd i

-- the words of a scalar
one_word : (s : Shape) (ws : List Word) (w : ℕ) → IsScalar s → IsHeld IsTeleCount s ws → scalar ws w ∷ [] ≡ ws
one_word (one t) [] w i h = absurd (let c = h.count in omega (arith, c))
one_word (one t) (x ∷ []) w i h = refl
one_word (one t) (x ∷ y ∷ ws) w i h = absurd (let c = h.count in omega (arith, c))
one_word (list t n) ws w i h = absurd i
one_word (set ks) ws w i h = absurd i
one_word (dict ks t) ws w i h = absurd i

-- ---- the packet's numbered scalars, as the store has them

abbrev tele_of_kind : Store → DeclKind → List ℕ → List Word
tele_of_kind s Tele x = s.values (scalar_path x) ∷ []
tele_of_kind s Sensor x = []
tele_of_kind s Header x = []
tele_of_kind s Control x = []

abbrev tele_off : Store → Option Decl → List ℕ → List Word
tele_off s None x = []
tele_off s (Some c) x = tele_of_kind s c.kind x

-- ---- a part

module _
    (g : Given) (i : IsGiven g) (calls : Calls) (held : Tables) (means : MeansTops (lower_monitor g) (IsFitTele g) (Keeps g) held calls) (exits : Bool) (control : List ℕ) (vars : List Var)
    (spare : (l : Lookup) → IsSpare vars l) (r : Run) (h : Reads Contents) (t z : Held) (s : StandsFor (lower_monitor g) (IsFitTele g) (Keeps g) (fields_of vars) held r h t z) (fits : FitsView g h.view)
    (flags : exits ≡ true → Flags h.first h.last r.store) where
  abbrev p : Property
  p = g.property

  -- what the hop shows flat code
  abbrev pub flat_hop : Hop
  flat_hop = numbered_hop (hop_for p.decls h)

  abbrev pub part : Setting
  part = record { calls = calls; hop = flat_hop; exits = exits; start = r; vars = vars; control = control }

  pub begins : Begins part
  begins =
      record {
        plain = s.tele.plain;
        valid = s.tele.valid;
        first = λ e. (flags e).is_first;
        last = λ e. (flags e).is_last;
        own = own g i;
        view = λ x c is k. view_is p.decls h.view r.store s.view x c (kept_header g i x c is k) k;
        hop = hop_fits g i h fits s.keeps.contents;
        scalars = scalars g i;
      }

  -- ---- it begins with the numbered form of a state

  abbrev pub started : Doing Held Held
  started = record { tele = λ x. tele_off r.store (lookup (decls g) x) x; sensors = z; rejected = false; reports = [] }

  tele_is :
      (x : List ℕ) (c : Decl) → lookup (decls g) x ≡ Some c → c.kind ≡ Tele →
      started.tele x ≡ r.store.values (scalar_path x) ∷ []
  tele_is x c is k = ap (λ o. tele_off r.store o x) is ∙ ap (λ k. tele_of_kind r.store k x) k

  field_fits :
      (x : List ℕ) (c : Decl) → lookup (decls g) x ≡ Some c → c.kind ≡ Tele →
      HasWidth (shape_width c.shape) (r.store.values (scalar_path x))
  field_fits x c is k =
      let each = field_at (IsFilled r.store) (decls g) (all_left (IsFilled r.store) (tele_fields (decls g)) (fill_fields (tele_fields (decls g))) (each_field (fields g) (words g t) r.store (fitting g i t s.tele.fits) s.tele.words)) in
      let f = found_all _ (decls g) each x c is k in
      let same : c.name ≡ x = name_found (decls g) x c is in
      subst (λ x. HasWidth (shape_width c.shape) (r.store.values (scalar_path x))) same
      (record { width = f.0 ∙ sym (sound_here g i x c is); in_range = subst (λ n. (r.store.values (scalar_path c.name)).value < 2 ^ n) (sym (sound_here g i x c is)) f.1 })

  started_shaped : AreShaped (decls g) started
  started_shaped =
      record {
        tele = λ x c is k. subst (IsHeld IsTeleCount c.shape) (sym (tele_is x c is k)) (record {
          words = All-cons (HasWidth (shape_width c.shape)) (r.store.values (scalar_path x)) [] (field_fits x c is k) (All-nil (HasWidth (shape_width c.shape)));
          count = one_count c.shape (scalars g i x c is k);
        });
        sensors = λ x c is k. s.keeps.shaped x c (kept_sensor g i x c is k) k;
      }

  pub stands : Stands part r started
  stands =
      record {
        tele = λ x c is k. ap (λ ws. scalar ws (shape_width c.shape)) (sym (tele_is x c is k));
        sensors = λ x c is k. s.keeps.cells x c (kept_sensor g i x c is k) k;
        shaped = started_shaped;
        fill = refl;
        rejected = λ e. (flags e).is_rejected;
        reports = sym (append-nil (filter is_report r.digests));
        widths = fresh_widths vars r.store s.fresh;
        others = others_same r;
      }

  pub shaped : AreShaped p.decls (nothing_yet t z)
  shaped = record { tele = s.tele.fits; sensors = s.keeps.shaped }

  -- ---- the store's telemetry is the packet's

  abbrev in_init : Sight
  in_init = sight p block.Init

  ready_decls : IsReady p.decls
  ready_decls = ready p i.plain.typed i.plain.plain i.plain.few

  each_holds :
      (x : List ℕ) (d : Decl) (v : ℕ) → lookup p.decls x ≡ Some d → variable_number p.decls x ≡ Some v → d.kind ≡ Tele →
      HoldsStore v d.shape (t x) r.store
  each_holds x d v is num k =
      words_from p.decls 0 t r.store
      (has_left tele_header (tele_fields (decls g)) (fill_fields (tele_fields (decls g))) (tele_words p.decls t) (zeros (fill_fields (tele_fields (decls g)))) r.store (words_long p.decls 0 t) s.tele.words).0 x d v is num k

  shape_holds :
      (x : List ℕ) (d : Decl) (v : ℕ) → lookup p.decls x ≡ Some d → variable_number p.decls x ≡ Some v → d.kind ≡ Tele → (sh : Shape) → d.shape ≡ sh →
      HoldsStore v sh (t x) r.store → Holds v sh (t x) started.tele
  shape_holds x d v is num k (one ty) sh w =
      tele_is (item_name v 0) _ (scalar_found in_init ready_decls (hop_for p.decls h) x d ty v is k sh num) refl
      ∙ ap (λ w. w ∷ []) w ∙ one_word (one ty) (t x) (width_of ty) tt (subst (λ s. IsHeld IsTeleCount s (t x)) sh (s.tele.fits x d is k))
  shape_holds x d v is num k (list ty n) sh w =
      let l : IsList p.decls x = record { decl = d; item = ty; size = n; found = is; kind = k; shape = sh } in
      record {
        count = tele_is (count_name v) _ (count_found in_init ready_decls (hop_for p.decls h) x l v num) refl ∙ ap (λ w. w ∷ []) w.0;
        items = λ j lt. tele_is (item_name v j) _ (item_found in_init ready_decls (hop_for p.decls h) x l v num j lt) refl ∙ ap (λ w. w ∷ []) (w.1 j lt);
      }
  shape_holds x d v is num k (set ks) sh w = tt
  shape_holds x d v is num k (dict ks ty) sh w = tt

  pub numbers : Numbers p.decls (nothing_yet t z) started
  numbers =
      record {
        tele = λ x d v is num k. shape_holds x d v is num k d.shape refl (each_holds x d v is num k);
        sensors = refl;
        rejected = refl;
        reports = refl;
      }

  -- ---- its lookups find what they should

  lookup_finds :
      (l : ℕ × Decl) → TableFinds (lookups g) held vars (lookup_of control l) →
      held (table_name control l.0) ≡ entries_for (lookup_of control l) (contents_in p.decls h.contents l.1.name) →
      Finds part l
  lookup_finds l find holds is k q key plain old keys long =
      let can : CanBeFound l.1 (contents_in p.decls h.contents l.1.name) =
      record { shape = looked_up g i l.1.name l.1 is k; sound = sound_here g i l.1.name l.1 is; gives = s.keeps.contents l.1.name l.1 (kept_control g i l.1.name l.1 is k) k } in
      subst (Applied vars l.0 l.1 (contents_in p.decls h.contents l.1.name) key q) (sym (means.tables (table_name control l.0) q refl))
      (find (spare (lookup_of control l)) (contents_in p.decls h.contents l.1.name) can holds q key plain old keys long)

  all_find :
      (ls : List (ℕ × Decl)) → AllByRecursion (λ l. TableFinds (lookups g) held vars (lookup_of control l)) ls →
      AllByRecursion (λ l. held (table_name control l.0) ≡ entries_for (lookup_of control l) (contents_in p.decls h.contents l.1.name)) ls → AllByRecursion (Finds part) ls
  all_find [] f e = tt
  all_find (l ∷ ls) f e = (lookup_finds l f.0 e.0, all_find ls f.1 e.1)

  -- the reads of a block whose lookups are among all, and whose variables among those of the part
  pub served :
      (ss : indus.Stmts) (n : ℕ) → ((P : Lookup → Type 0) → AllByRecursion P (lookups g) → AllByRecursion P (lookups_of g control ss n)) →
      ((q : Store) → HasWidths vars q → HasWidths (vars_in (block_numbers (decls g) ss n)) q) → AreServed part (block_numbers (decls g) ss n)
  served ss n among has =
      record {
        declared = has;
        found =
            all_find (block_lookups (decls g) ss n)
            (all_unmapped (lookup_of control) (TableFinds (lookups g) held vars) (block_lookups (decls g) ss n) (among (TableFinds (lookups g) held vars) (tables_find (lookups g) (lookups_numbered g i) held vars)))
            (all_unmapped (lookup_of control) _ (block_lookups (decls g) ss n) (among _ s.keeps.tables));
      }

  -- ---- it ends

  shape_back :
      (q : Run) (f : Doing Held Held) (u : Held) → Stands part q f → (x : List ℕ) (d : Decl) (v : ℕ) → lookup p.decls x ≡ Some d → variable_number p.decls x ≡ Some v → d.kind ≡ Tele →
      (sh : Shape) → d.shape ≡ sh → Holds v sh (u x) f.tele → HoldsStore v sh (u x) q.store
  shape_back q f u e x d v is num k (one ty) sh w =
      e.tele (item_name v 0) _ (scalar_found in_init ready_decls (hop_for p.decls h) x d ty v is k sh num) refl ∙ ap (λ ws. scalar ws (width_of ty)) w
  shape_back q f u e x d v is num k (list ty n) sh w =
      (let l : IsList p.decls x = record { decl = d; item = ty; size = n; found = is; kind = k; shape = sh } in (
        e.tele (count_name v) _ (count_found in_init ready_decls (hop_for p.decls h) x l v num) refl ∙ ap (λ ws. scalar ws 8) w.count,
        λ j lt. e.tele (item_name v j) _ (item_found in_init ready_decls (hop_for p.decls h) x l v num j lt) refl ∙ ap (λ ws. scalar ws (width_of ty)) (w.items j lt),
      ))
  shape_back q f u e x d v is num k (set ks) sh w = tt
  shape_back q f u e x d v is num k (dict ks ty) sh w = tt

  words_behind :
      (q : Run) (f d : Doing Held Held) → Stands part q f → Numbers p.decls d f →
      HasWords tele_header (fields g) (words g d.tele) q.store
  words_behind q f d e n =
      let fs = fill_fields (tele_fields (decls g)) in
      has_both tele_header (tele_fields (decls g)) fs (tele_words p.decls d.tele) (zeros fs) q.store
      (words_to p.decls 0 d.tele q.store (once g i) (λ x c v is num k. shape_back q f d.tele e x c v is num k c.shape refl (n.tele x c v is num k)))
      (fill_same _ r.store q.store e.fill (has_left tele_header (tele_fields (decls g)) fs (tele_words p.decls t) (zeros fs) r.store (words_long p.decls 0 t) s.tele.words).1)

  kept_cells : (x : List ℕ) (c : Decl) → lookup p.decls x ≡ Some c → c.kind ≡ Sensor → lookup (decls g) x ≡ Some c
  kept_cells x c is k = kept_found in_init ready_decls (hop_for p.decls h) x (record { decl = c; found = is; kind = λ e. absurd (let z : Tele ≡ Sensor = sym e ∙ k in cc) }) ∙ is

  -- a run that stands for the numbered form of a state did what a part does
  pub does_of :
      (e : Ended) (f d : Doing Held Held) → Ends (λ q. Stands part q f) e → Numbers p.decls d f → AreShaped p.decls d →
      Does (lower_monitor g) (IsFitTele g) (Keeps g) held r e h.contents d
  does_of e f d a n k =
      record {
        words = words_behind e.0 f d a.run n;
        fits = k.tele;
        keeps = record {
          cells = λ x c is kind. a.run.sensors x c (kept_cells x c is kind) kind ∙ ap (λ (u : Held). map (cell_value (start_word c.start (shape_width c.shape))) (u x)) n.sensors;
          shaped = k.sensors;
          contents = s.keeps.contents;
          tables = s.keeps.tables;
        };
        others = a.run.others;
        reports = a.run.reports ∙ ap (λ l. filter is_report r.digests ++ map report_digest l) n.reports;
        goes = a.goes;
      }
