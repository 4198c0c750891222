-- Along a passage of the forwarding program each path keeps the width with which it is declared.
use Rattle.std.proofs.Common.{◌≡◌, ℕ, zero, suc, ◌<◌, ◌≤◌, ◌^◌, List, [], ◌∷◌, ◌++◌, length, take, Bool, true, false, cond, ◌||◌, Option, Some, None, Result, Ok, Err, refl, sym, ap, ap₂, ◌∙◌, subst, pow_pos, arith}
use Rattle.std.specs.Prelude.{codes, nat_lt}
use Rattle.std.specs.List.{AllByRecursion}
use Rattle.std.proofs.Math.Nat.{mod-lt}
use Rattle.bit_values.specs.Bits.{Word, word, cast}
use Rattle.bit_values.specs.Widths.{bit, sound_width}
use Rattle.bit_values.specs.BitLists.{AreBits, number_of}
use Rattle.bit_values.specs.Bytes.{bits_of}
use Rattle.bit_values.proofs.BitListsLemmas.{AreBits-take, AreBits-drop, number_of-lt}
use Rattle.bit_values.proofs.BytesLemmas.{AreBits-bits_of}
use Rattle.lex_text.specs.Names.{same_path, parent}
use Rattle.p4_tree.specs.Tree.{Expr, path, valid, Arg, one, Stmt, Stmts, assign, call, done, next, Transition, ParserState}
use Rattle.p4_meaning.specs.Standard.{metadata_root, standard_paths, ingress_port, egress_spec, egress_port, packet_length, checksum_error, parser_error}
use Rattle.p4_meaning.specs.Store.{Store, blank, shown, set_value, set_valid}
use Rattle.p4_meaning.specs.Value.{value_of, is_valid}
use Rattle.p4_meaning.specs.Statements.{no_calls, Run, assigned, meaning_of}
use Rattle.p4_meaning.specs.Parsing.{Field, Header, Reading, Parsed, goes_on, stops, ParserError, NoError, PacketTooShort, NoMatch, ParserEnd, parser_end, Turned, ends, leads, width_sum, field_taken, fields_taken, with_valid, extracted, extracted_at, unless_stopped, call_parsed, stmt_parsed, body_parsed, state_after, led, turned, on_turned, found_state, ends_parser, passed_state, turns_of, parse_of}
use Rattle.p4_meaning.specs.Parts.{Parts}
use Rattle.p4_meaning.specs.Pass.{zero_fields, no_headers, store_before, error_number, store_behind, is_field_of, is_header_field, is_one_path, is_declared_path, declared, to_egress}
use Rattle.p4_meaning.specs.Tables.{Tables, calls_in}
use Rattle.p4_meaning.specs.Laws.{IsOf, KeepsWords, HasStandard}
use Rattle.p4_meaning.proofs.Words.{sound_wide, sound_narrow}
use Rattle.p4_meaning.proofs.KeptWords.{no_calls_keep, all_keep, calls_keep_words}
use Rattle.switch_machines.specs.Programs.{view_of}
use Rattle.own_code.specs.Relations.{bare}
use Rattle.own_code.proofs.Apart.{path_decides}
use Rattle.linked_halves.specs.Widths.{fields_width, headers_width, standard_width, width_at, HaveWidths, HasSoundFields, HasWidths, IsViewOf, AreViewsOf, AreOf}

or_true : (b : Bool) → (b || true) ≡ true
or_true true = refl
or_true false = refl

-- ---- words

take_le : (n : ℕ) (bs : List ℕ) → length (take n bs) ≤ n
take_le zero bs = omega arith
take_le (suc n) [] = omega arith
take_le (suc n) (b ∷ bs) = let k = take_le n bs in omega (arith, k)

powers : (m n : ℕ) → m ≤ n → 2 ^ m ≤ 2 ^ n
powers zero n h = pow_pos n
powers (suc m) zero h = absurd (omega (arith, h))
powers (suc m) (suc n) h = let k = powers m n (omega (arith, h)) in omega (arith, k)

-- a number below 2 to the width
word_of : (n v : ℕ) → 1 ≤ n → n ≤ 128 → v < 2 ^ n → IsOf n (word n v)
word_of n v a b c = record { word = record { wide = a; narrow = b; in_range = c }; width = refl }

-- a width that is sound
sound_one : (n : ℕ) → sound_width n ≡ n → 1 ≤ n
sound_one n e = subst (λ k. 1 ≤ k) e (sound_wide n)

sound_most : (n : ℕ) → sound_width n ≡ n → n ≤ 128
sound_most n e = subst (λ k. k ≤ 128) e (sound_narrow n)

-- what a field shows has its width
shown_of : (o : Option Bool) (n : ℕ) (w : Word) → IsOf n w → IsOf n (shown o w)
shown_of None n w h = h
shown_of (Some true) n w h = h
shown_of (Some false) n w h =
    record { word = record { wide = h.word.wide; narrow = h.word.narrow; in_range = pow_pos w.width }; width = h.width }

bit_of : (b : Bool) → IsOf 1 (bit b)
bit_of true = word_of 1 1 (omega arith) (omega arith) (omega arith)
bit_of false = word_of 1 0 (omega arith) (omega arith) (omega arith)

-- ---- views

view_width : (f : Parts) (n : ℕ) (e : Expr) (s : Store) → HasWidths f s → IsViewOf f n e → IsOf n (value_of e 0 s)
view_width f n (path p []) s h v = absurd (let no : false ≡ true = v.0 in cc)
view_width f n (path p (x ∷ [])) s h v = absurd (let no : false ≡ true = v.0 in cc)
view_width f n (path p (x ∷ y ∷ rest)) s h v =
    subst (λ k. IsOf k (value_of (path p (x ∷ y ∷ rest)) 0 s)) v.1 (shown_of (s.headers (parent (x ∷ y ∷ rest))) (width_at f (x ∷ y ∷ rest)) (s.values (x ∷ y ∷ rest)) (h.words x y rest))
view_width f n (valid p header) s h v = subst (λ k. IsOf k (bit (is_valid (s.headers header)))) (sym v) (bit_of (is_valid (s.headers header)))
view_width f n _ s h v = absurd v

pub views_width : (f : Parts) (ns : List ℕ) (es : List Expr) (s : Store) → HasWidths f s → AreViewsOf f ns es → AreOf ns (view_of es s)
views_width f [] [] s h v = tt
views_width f [] (e ∷ es) s h v = absurd v
views_width f (n ∷ ns) [] s h v = absurd v
views_width f (n ∷ ns) (e ∷ es) s h v = (view_width f n e s h v.0, views_width f ns es s h v.1)

-- ---- writes

module _ (f : Parts) where
  -- one path has another word of its width
  set_widths : (s : Store) (p : List (List ℕ)) (w : Word) → HasWidths f s → IsOf (width_at f p) w → HasWidths f (set_value s p w)
  set_widths s p w h i = record { words = λ x y rest. go (x ∷ y ∷ rest) (h.words x y rest) (same_path p (x ∷ y ∷ rest)) refl }
    where
      go : (q : List (List ℕ)) → IsOf (width_at f q) (s.values q) → (b : Bool) → same_path p q ≡ b → IsOf (width_at f q) (cond b w (s.values q))
      go q k true e = subst (λ r. IsOf (width_at f r) w) ((path_decides p q).0 e) i
      go q k false e = k

  -- what keeps words keeps widths
  pub kept_widths : (a b : Store) → HasWidths f a → KeepsWords a b → HasWidths f b
  kept_widths a b h k =
      record { words = λ x y rest. let one = h.words x y rest in let two = k.words x y rest one.word in record { word = two.word; width = two.width ∙ one.width } }

  has_standard : (s : Store) → HasWidths f s → HasStandard s
  has_standard s h = record { spec = h.words _ _ []; error = h.words _ _ [] }

  -- statements keep them
  pub none_widths : (ss : Stmts) (r : Run) → HasWidths f r.store → HasWidths f (meaning_of no_calls ss r).0.store
  none_widths ss r h = kept_widths r.store (meaning_of no_calls ss r).0.store h (all_keep no_calls no_calls_keep ss r (has_standard r.store h))

  pub calls_widths : (held : Tables) (ss : Stmts) (r : Run) → HasWidths f r.store → HasWidths f (meaning_of (calls_in f.actions f.tables held) ss r).0.store
  calls_widths held ss r h = kept_widths r.store (meaning_of (calls_in f.actions f.tables held) ss r).0.store h (calls_keep_words f.actions f.tables held ss r (has_standard r.store h))

  -- an assignment of a state of the parser
  assigned_widths : (s : Store) (p : List (List ℕ)) (e : Expr) → HasWidths f s → HasWidths f (assigned s p (value_of e (s.values p).width s))
  assigned_widths s p e h = none_widths (next (assign 0 p e) done) (bare s) h

  -- ---- the parser

  record Sized (r : Reading) : Type 0 where
    store : HasWidths f r.store
    bits : AreBits r.rest

  taken_low : (n : ℕ) (bs : List ℕ) → AreBits bs → number_of (take n bs) < 2 ^ n
  taken_low n bs h = let low = number_of-lt (take n bs) (AreBits-take n bs h) in let most = powers (length (take n bs)) n (take_le n bs) in omega (arith, low, most)

  field_sized : (p : List (List ℕ)) (g : Field) (r : Reading) → width_at f (p ++ g.name ∷ []) ≡ g.width → sound_width g.width ≡ g.width → Sized r → Sized (field_taken p g r)
  field_sized p g r e n h =
      let v = number_of (take g.width r.rest) in
      record {
        store = set_widths r.store (p ++ g.name ∷ []) (word g.width v) h.store
            (subst (λ k. IsOf k (word g.width v)) (sym e) (word_of g.width v (sound_one g.width n) (sound_most g.width n) (taken_low g.width r.rest h.bits)));
        bits = AreBits-drop g.width r.rest h.bits;
      }

  fields_sized : (p : List (List ℕ)) (fs : List Field) (r : Reading) → HaveWidths f p fs → Sized r → Sized (fields_taken p fs r)
  fields_sized p [] r i h = h
  fields_sized p (g ∷ fs) r i h = fields_sized p fs (field_taken p g r) i.1 (field_sized p g r i.0.0 i.0.1 h)

  abbrev IsSizedParsed : Parsed → Type 0
  IsSizedParsed (goes_on r) = Sized r
  IsSizedParsed (stops r e) = Sized r

  extracted_sized : (h : Header) (r : Reading) → HaveWidths f h.path h.fields → Sized r → IsSizedParsed (extracted h r)
  extracted_sized h r i k = go (nat_lt (length r.rest) (width_sum h.fields))
    where
      go : (b : Bool) → IsSizedParsed (cond b (stops r PacketTooShort) (goes_on (with_valid h.path (fields_taken h.path h.fields r))))
      go true = k
      go false = let t = fields_sized h.path h.fields r i k in record { store = record { words = λ x y rest. t.store.words x y rest }; bits = t.bits }

  at_sized : (hs : List Header) (p : List (List ℕ)) (r : Reading) → AllByRecursion (λ h. HaveWidths f h.path h.fields) hs → Sized r → IsSizedParsed (extracted_at hs p r)
  at_sized [] p r i k = k
  at_sized (h ∷ hs) p r i k = go (same_path h.path p) (extracted_sized h r i.0 k) (at_sized hs p r i.1 k)
    where
      go : (b : Bool) → IsSizedParsed (extracted h r) → IsSizedParsed (extracted_at hs p r) → IsSizedParsed (cond b (extracted h r) (extracted_at hs p r))
      go true a b = a
      go false a b = b

  module _ (sound : HasSoundFields f) where
    call_sized : (args : List Arg) (r : Reading) → Sized r → IsSizedParsed (call_parsed f.headers args r)
    call_sized (one p (path q names) ∷ []) r k = at_sized f.headers names r sound.headers k
    call_sized _ r k = k

    stmt_sized : (st : Stmt) (r : Reading) → Sized r → IsSizedParsed (stmt_parsed f.headers st r)
    stmt_sized (assign p target e) r k = record { store = assigned_widths r.store target e k.store; bits = k.bits }
    stmt_sized (call p callee args) r k = call_sized args r k
    stmt_sized _ r k = k

    unless_sized : (x : Parsed) (more : Reading → Parsed) → IsSizedParsed x → ((r : Reading) → Sized r → IsSizedParsed (more r)) → IsSizedParsed (unless_stopped x more)
    unless_sized (goes_on r) more k m = m r k
    unless_sized (stops r e) more k m = k

    body_sized : (sts : List Stmt) (r : Reading) → Sized r → IsSizedParsed (body_parsed f.headers sts r)
    body_sized [] r k = k
    body_sized (st ∷ sts) r k = unless_sized (stmt_parsed f.headers st r) (body_parsed f.headers sts) (stmt_sized st r k) (λ r k. body_sized sts r k)

    abbrev IsSizedTurned : Turned → Type 0
    IsSizedTurned (ends e) = Sized e.reading
    IsSizedTurned (leads x r) = Sized r

    led_sized : (o : Result (List ℕ) ParserError) (r : Reading) → Sized r → IsSizedTurned (led o r)
    led_sized (Ok x) r k = k
    led_sized (Err e) r k = k

    turned_sized : (x : Parsed) (t : Transition) → IsSizedParsed x → IsSizedTurned (turned x t)
    turned_sized (goes_on r) t k = led_sized (state_after t r.store) r k
    turned_sized (stops r e) t k = k

    on_sized : (x : Turned) (more : List ℕ → Reading → ParserEnd) → IsSizedTurned x → ((n : List ℕ) (r : Reading) → Sized r → Sized (more n r).reading) → Sized (on_turned x more).reading
    on_sized (ends e) more k m = k
    on_sized (leads x r) more k m = m x r k

    passed_sized : (o : Option (ParserState × List ParserState)) (r : Reading) (more : List ParserState → List ℕ → Reading → ParserEnd) → Sized r
        → ((sts : List ParserState) (n : List ℕ) (r : Reading) → Sized r → Sized (more sts n r).reading) → Sized (passed_state f.headers o r more).reading
    passed_sized None r more k m = k
    passed_sized (Some t) r more k m = on_sized (turned (body_parsed f.headers t.0.body r) t.0.next) (more t.1) (turned_sized (body_parsed f.headers t.0.body r) t.0.next (body_sized t.0.body r k)) (m t.1)

    turns_sized : (n : ℕ) (sts : List ParserState) (x : List ℕ) (r : Reading) → Sized r → Sized (turns_of n f.headers sts x r).reading
    turns_sized zero sts x r k = k
    turns_sized (suc n) sts x r k = go (ends_parser x) (passed_sized (found_state sts x) r (turns_of n f.headers) k (λ sts x r k. turns_sized n sts x r k))
      where
        go : (b : Bool) → Sized (passed_state f.headers (found_state sts x) r (turns_of n f.headers)).reading → Sized (cond b (parser_end r NoError) (passed_state f.headers (found_state sts x) r (turns_of n f.headers))).reading
        go true i = k
        go false i = i

    -- ---- before the parser and behind it

    zero_word : (n : ℕ) → sound_width n ≡ n → IsOf n (word n 0)
    zero_word n e = word_of n 0 (sound_one n e) (sound_most n e) (pow_pos n)

    -- the fields of a path, which are 0
    zero_at : (p : List (List ℕ)) (fs : List Field) (s : Store) (q : List (List ℕ)) → HaveWidths f p fs
        → (is_field_of p fs q ≡ true → IsOf (width_at f q) ((zero_fields p fs s).values q)) × (is_field_of p fs q ≡ false → (zero_fields p fs s).values q ≡ s.values q)
    zero_at p [] s q i = (λ e. absurd (cc), λ e. refl)
    zero_at p (g ∷ fs) s q i = go (zero_at p fs (set_value s (p ++ g.name ∷ []) (word (sound_width g.width) 0)) q i.1) (same_path (p ++ g.name ∷ []) q) refl (is_field_of p fs q) refl
      where
        t : Store
        t = set_value s (p ++ g.name ∷ []) (word (sound_width g.width) 0)

        go : ((is_field_of p fs q ≡ true → IsOf (width_at f q) ((zero_fields p fs t).values q)) × (is_field_of p fs q ≡ false → (zero_fields p fs t).values q ≡ t.values q)) → (a : Bool) → same_path (p ++ g.name ∷ []) q ≡ a → (b : Bool) → is_field_of p fs q ≡ b
            → ((same_path (p ++ g.name ∷ []) q || is_field_of p fs q) ≡ true → IsOf (width_at f q) ((zero_fields p fs t).values q)) × ((same_path (p ++ g.name ∷ []) q || is_field_of p fs q) ≡ false → (zero_fields p fs t).values q ≡ s.values q)
        go rest a e true k = (λ o. rest.0 k, λ o. absurd (let no : true ≡ false = sym (ap (λ b. same_path (p ++ g.name ∷ []) q || b) k ∙ or_true (same_path (p ++ g.name ∷ []) q)) ∙ o in cc))
        go rest true e false k = (
          λ o. subst (λ w. IsOf (width_at f q) w) (sym (rest.1 k ∙ ap (λ b. cond b (word (sound_width g.width) 0) (s.values q)) e))
              (subst (λ r. IsOf (width_at f r) (word (sound_width g.width) 0)) ((path_decides (p ++ g.name ∷ []) q).0 e)
              (subst (λ k. IsOf k (word (sound_width g.width) 0)) (sym i.0.0) (subst (λ k. IsOf g.width (word k 0)) (sym i.0.1) (zero_word g.width i.0.1)))),
          λ o. absurd (let no : true ≡ false = sym (ap (λ b. b || is_field_of p fs q) e) ∙ o in cc),
        )
        go rest false e false k = (
          λ o. absurd (let no : false ≡ true = sym (ap₂ (λ a b. a || b) e k) ∙ o in cc),
          λ o. rest.1 k ∙ ap (λ b. cond b (word (sound_width g.width) 0) (s.values q)) e,
        )

    headers_at : (hs : List Header) (s : Store) (q : List (List ℕ)) → AllByRecursion (λ h. HaveWidths f h.path h.fields) hs
        → (is_header_field hs q ≡ true → IsOf (width_at f q) ((no_headers hs s).values q)) × (is_header_field hs q ≡ false → (no_headers hs s).values q ≡ s.values q)
    headers_at [] s q i = (λ e. absurd (cc), λ e. refl)
    headers_at (h ∷ hs) s q i = go (headers_at hs (zero_fields h.path h.fields (set_valid s h.path false)) q i.1) (is_field_of h.path h.fields q) refl (is_header_field hs q) refl
      where
        t : Store
        t = zero_fields h.path h.fields (set_valid s h.path false)

        first : (is_field_of h.path h.fields q ≡ true → IsOf (width_at f q) (t.values q)) × (is_field_of h.path h.fields q ≡ false → t.values q ≡ s.values q)
        first = zero_at h.path h.fields (set_valid s h.path false) q i.0

        go : ((is_header_field hs q ≡ true → IsOf (width_at f q) ((no_headers hs t).values q)) × (is_header_field hs q ≡ false → (no_headers hs t).values q ≡ t.values q)) → (a : Bool) → is_field_of h.path h.fields q ≡ a → (b : Bool) → is_header_field hs q ≡ b
            → ((is_field_of h.path h.fields q || is_header_field hs q) ≡ true → IsOf (width_at f q) ((no_headers hs t).values q)) × ((is_field_of h.path h.fields q || is_header_field hs q) ≡ false → (no_headers hs t).values q ≡ s.values q)
        go rest a e true k = (λ o. rest.0 k, λ o. absurd (let no : true ≡ false = sym (ap (λ b. is_field_of h.path h.fields q || b) k ∙ or_true (is_field_of h.path h.fields q)) ∙ o in cc))
        go rest true e false k = (
          λ o. subst (λ w. IsOf (width_at f q) w) (sym (rest.1 k)) (first.0 e),
          λ o. absurd (let no : true ≡ false = sym (ap (λ b. b || is_header_field hs q) e) ∙ o in cc),
        )
        go rest false e false k = (
          λ o. absurd (let no : false ≡ true = sym (ap₂ (λ a b. a || b) e k) ∙ o in cc),
          λ o. rest.1 k ∙ first.1 e,
        )

    -- a path that is none of the fields
    none_fields : (p : List (List ℕ)) (fs : List Field) (q : List (List ℕ)) (n : ℕ) → is_field_of p fs q ≡ false → fields_width p fs q n ≡ n
    none_fields p [] q n e = refl
    none_fields p (g ∷ fs) q n e = go (same_path (p ++ g.name ∷ []) q) (is_field_of p fs q) e (none_fields p fs q n)
      where
        go : (a b : Bool) → (a || b) ≡ false → (b ≡ false → fields_width p fs q n ≡ n) → cond a g.width (fields_width p fs q n) ≡ n
        go true b e k = absurd (cc)
        go false b e k = k e

    none_headers : (hs : List Header) (q : List (List ℕ)) (n : ℕ) → is_header_field hs q ≡ false → headers_width hs q n ≡ n
    none_headers [] q n e = refl
    none_headers (h ∷ hs) q n e = go (λ k. none_headers hs q n k) (is_field_of h.path h.fields q) refl e
      where
        go : (is_header_field hs q ≡ false → headers_width hs q n ≡ n) → (a : Bool) → is_field_of h.path h.fields q ≡ a → (a || is_header_field hs q) ≡ false → fields_width h.path h.fields q (headers_width hs q n) ≡ n
        go rest true i e = absurd (cc)
        go rest false i e = none_fields h.path h.fields q (headers_width hs q n) i ∙ rest e

    none_standard : (q : List (List ℕ)) (n : ℕ) → is_one_path standard_paths q ≡ false → standard_width q n ≡ n
    none_standard q n e = go (same_path ingress_port q) (same_path egress_spec q) (same_path egress_port q) (same_path packet_length q) (same_path checksum_error q) (same_path parser_error q) e
      where
        go : (a b c d e g : Bool) → (a || (b || (c || (d || (e || (g || false)))))) ≡ false → cond a 9 (cond b 9 (cond c 9 (cond d 32 (cond e 1 (cond g 2 n))))) ≡ n
        go true b c d e g i = absurd (cc)
        go false true c d e g i = absurd (cc)
        go false false true d e g i = absurd (cc)
        go false false false true e g i = absurd (cc)
        go false false false false true g i = absurd (cc)
        go false false false false false true i = absurd (cc)
        go false false false false false false i = refl

    -- no path of the standard metadata: declared or not
    others_width : (q : List (List ℕ)) → is_field_of (metadata_root ∷ []) f.metadata q ≡ false → is_header_field f.headers q ≡ false → is_one_path standard_paths q ≡ false → width_at f q ≡ 1
    others_width q a b c =
        none_standard q _ c ∙ none_fields (metadata_root ∷ []) f.metadata q _ a ∙ none_headers f.headers q 1 b

    one_bit : IsOf 1 (word 1 0)
    one_bit = word_of 1 0 (omega arith) (omega arith) (omega arith)

    abbrev start_store : Store
    start_store = zero_fields (metadata_root ∷ []) f.metadata (no_headers f.headers blank)

    start_widths : (q : List (List ℕ)) → is_one_path standard_paths q ≡ false → IsOf (width_at f q) (start_store.values q)
    start_widths q o = go (is_field_of (metadata_root ∷ []) f.metadata q) refl (is_header_field f.headers q) refl
      where
        go : (a : Bool) → is_field_of (metadata_root ∷ []) f.metadata q ≡ a → (b : Bool) → is_header_field f.headers q ≡ b → IsOf (width_at f q) (start_store.values q)
        go true e b k = (zero_at (metadata_root ∷ []) f.metadata (no_headers f.headers blank) q sound.metadata).0 e
        go false e true k = subst (λ w. IsOf (width_at f q) w) (sym ((zero_at (metadata_root ∷ []) f.metadata (no_headers f.headers blank) q sound.metadata).1 e)) ((headers_at f.headers blank q sound.headers).0 k)
        go false e false k =
            subst (λ w. IsOf (width_at f q) w) (sym ((zero_at (metadata_root ∷ []) f.metadata (no_headers f.headers blank) q sound.metadata).1 e ∙ (headers_at f.headers blank q sound.headers).1 k))
            (subst (λ n. IsOf n (word 1 0)) (sym (others_width q e k o)) one_bit)

    -- the standard metadata are set one by one
    abbrev Open : List (List (List ℕ)) → Store → Type 0
    Open ps s = (q : List (List ℕ)) → is_one_path ps q ≡ false → IsOf (width_at f q) (s.values q)

    one_less : (p : List (List ℕ)) (ps : List (List (List ℕ))) (s : Store) (w : Word) → IsOf (width_at f p) w → Open (p ∷ ps) s → Open ps (set_value s p w)
    one_less p ps s w i h q o = go (same_path p q) refl
      where
        go : (b : Bool) → same_path p q ≡ b → IsOf (width_at f q) (cond b w (s.values q))
        go true e = subst (λ r. IsOf (width_at f r) w) ((path_decides p q).0 e) i
        go false e = h q (ap (λ b. b || is_one_path ps q) e ∙ o)

    low_word : (n v : ℕ) → 1 ≤ n → n ≤ 128 → IsOf n (word n (cast n v))
    low_word n v a b = word_of n (cast n v) a b (mod-lt v (pow_pos n))

    before_widths : (port len : ℕ) → HasWidths f (store_before f port len)
    before_widths port len =
        let s0 = start_store in
        let s1 = set_value s0 ingress_port (word 9 (cast 9 port)) in
        let s2 = set_value s1 egress_spec (word 9 0) in
        let s3 = set_value s2 egress_port (word 9 0) in
        let s4 = set_value s3 packet_length (word 32 (cast 32 len)) in
        let s5 = set_value s4 checksum_error (word 1 0) in
        let h1 : Open (egress_spec ∷ egress_port ∷ packet_length ∷ checksum_error ∷ parser_error ∷ []) s1 = one_less ingress_port (egress_spec ∷ egress_port ∷ packet_length ∷ checksum_error ∷ parser_error ∷ []) s0 (word 9 (cast 9 port)) (low_word 9 port (omega arith) (omega arith)) start_widths in
        let h2 : Open (egress_port ∷ packet_length ∷ checksum_error ∷ parser_error ∷ []) s2 = one_less egress_spec (egress_port ∷ packet_length ∷ checksum_error ∷ parser_error ∷ []) s1 (word 9 0) (word_of 9 0 (omega arith) (omega arith) (omega arith)) h1 in
        let h3 : Open (packet_length ∷ checksum_error ∷ parser_error ∷ []) s3 = one_less egress_port (packet_length ∷ checksum_error ∷ parser_error ∷ []) s2 (word 9 0) (word_of 9 0 (omega arith) (omega arith) (omega arith)) h2 in
        let h4 : Open (checksum_error ∷ parser_error ∷ []) s4 = one_less packet_length (checksum_error ∷ parser_error ∷ []) s3 (word 32 (cast 32 len)) (low_word 32 len (omega arith) (omega arith)) h3 in
        let h5 : Open (parser_error ∷ []) s5 = one_less checksum_error (parser_error ∷ []) s4 (word 1 0) one_bit h4 in
        let h6 : Open [] (set_value s5 parser_error (word 2 0)) = one_less parser_error [] s5 (word 2 0) (word_of 2 0 (omega arith) (omega arith) (omega arith)) h5 in
        record { words = λ x y rest. h6 (x ∷ y ∷ rest) refl }

    error_word : (e : ParserError) → IsOf 2 (word 2 (error_number e))
    error_word NoError = word_of 2 0 (omega arith) (omega arith) (omega arith)
    error_word PacketTooShort = word_of 2 1 (omega arith) (omega arith) (omega arith)
    error_word NoMatch = word_of 2 2 (omega arith) (omega arith) (omega arith)

    -- between verify checksum and ingress
    pub entry_widths : (port : ℕ) (frame : List ℕ) (r : Run) → (let e = parse_of f.headers f.states (record { store = store_before f port (length frame); rest = bits_of frame }) in r.store ≡ store_behind e) → HasWidths f (meaning_of no_calls f.verify r).0.store
    entry_widths port frame r is =
        let start : Reading = record { store = store_before f port (length frame); rest = bits_of frame } in
        let e = parse_of f.headers f.states start in
        let h = turns_sized (suc (length f.states)) f.states (codes "start") start (record { store = before_widths port (length frame); bits = AreBits-bits_of frame }) in
        none_widths f.verify r (subst (HasWidths f) (sym is) (set_widths e.reading.store parser_error (word 2 (error_number e.error)) h.store (error_word e.error)))

    -- in the queue
    declared_widths : (s : Store) → HasWidths f s → HasWidths f (declared f s)
    declared_widths s h = record { words = λ x y rest. go (x ∷ y ∷ rest) (h.words x y rest) (is_one_path standard_paths (x ∷ y ∷ rest)) refl (is_field_of (metadata_root ∷ []) f.metadata (x ∷ y ∷ rest)) refl (is_header_field f.headers (x ∷ y ∷ rest)) refl }
      where
        go : (q : List (List ℕ)) → IsOf (width_at f q) (s.values q) → (a : Bool) → is_one_path standard_paths q ≡ a → (b : Bool) → is_field_of (metadata_root ∷ []) f.metadata q ≡ b → (c : Bool) → is_header_field f.headers q ≡ c → IsOf (width_at f q) (cond (is_declared_path f q) (s.values q) (word 1 0))
        go q k true e b i c o = subst (λ t. IsOf (width_at f q) (cond t (s.values q) (word 1 0))) (sym (ap (λ t. t || (is_field_of (metadata_root ∷ []) f.metadata q || is_header_field f.headers q)) e)) k
        go q k false e true i c o = subst (λ t. IsOf (width_at f q) (cond t (s.values q) (word 1 0))) (sym (ap₂ (λ t u. t || (u || is_header_field f.headers q)) e i)) k
        go q k false e false i true o = subst (λ t. IsOf (width_at f q) (cond t (s.values q) (word 1 0))) (sym (ap₂ (λ t u. t || (u || is_header_field f.headers q)) e i ∙ o)) k
        go q k false e false i false o =
            subst (λ t. IsOf (width_at f q) (cond t (s.values q) (word 1 0))) (sym (ap₂ (λ t u. t || (u || is_header_field f.headers q)) e i ∙ o))
            (subst (λ n. IsOf n (word 1 0)) (sym (others_width q i o e)) one_bit)

    pub queued_widths : (s : Store) → HasWidths f s → HasWidths f (to_egress f s)
    queued_widths s h =
        let n = (s.values egress_spec).value in
        let one = set_widths (declared f s) egress_port (word 9 (cast 9 n)) (declared_widths s h) (low_word 9 n (omega arith) (omega arith)) in
        set_widths (set_value (declared f s) egress_port (word 9 (cast 9 n))) egress_spec (word 9 0) one (word_of 9 0 (omega arith) (omega arith) (omega arith))
