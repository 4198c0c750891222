-- The linked parser: what stands in the store before it, the monitor's two states, and behind them the program's
-- own. Behind it the program's part is the same, and the telemetry stands as a frame brought it.
use Rattle.std.proofs.Common.{◌≡◌, codes, ℕ, suc, ◌+◌, ◌<◌, List, [], ◌∷◌, ◌++◌, map, length, Bool, true, false, cond, Some, None, refl, sym, ap, ap₂, ◌∙◌, subst, arith, length-append}
use Rattle.std.proofs.lemmas.List.{length-map}
use Rattle.std.proofs.lemmas.Bool.Decides.{nat_tests}
use Rattle.std.specs.Prelude.{if◌then◌else◌, nat_lt}
use Rattle.std.specs.List.{AllByRecursion}
use Rattle.bit_values.specs.Bits.{Word, word, sub, cast}
use Rattle.bit_values.specs.Widths.{either_width, sound_width, cast_word}
use Rattle.bit_values.specs.Bytes.{bits_of}
use Rattle.bit_values.proofs.BitsLemmas.{cast_of_small}
use Rattle.bit_values.proofs.BytesLemmas.{bits_of-append}
use Rattle.bit_writer.specs.Bytes.{words_bits}
use Rattle.lex_text.specs.Names.{same_text, same_path}
use Rattle.p4_tree.specs.Tree.{Expr, path, binary, to, select, ParserState}
use Rattle.p4_tree.specs.declared.statement.Op.TheVariants as p4
use Rattle.p4_tree.specs.Operators.{operate}
use Rattle.p4_meaning.specs.Standard.{metadata_root, standard_root, ingress_port, egress_spec, egress_port, packet_length, checksum_error, parser_error}
use Rattle.p4_meaning.specs.Store.{Store, blank, read, shown, set_value, set_valid}
use Rattle.p4_meaning.specs.Value.{value_of}
use Rattle.p4_meaning.specs.Statements.{Run, assigned}
use Rattle.p4_meaning.specs.Parsing.{Field, Header, PacketTooShort, Reading, goes_on, stops, width_sum, with_valid, fields_taken, extracted, unless_stopped, chosen, ParserEnd, leads, led, turned, first_fit, body_parsed, on_turned, turns_of, parse_of}
use Rattle.p4_meaning.specs.Parts.{Parts}
use Rattle.p4_meaning.specs.Pass.{Kept, zero_fields, no_headers, with_standard, store_before}
use Rattle.p4_meaning.proofs.Turns.{one_turn_more}
use Rattle.own_code.specs.Regions.{is_mine, is_free, is_writable, is_own_header}
use Rattle.own_code.specs.Forwarding.{IsForwarding}
use Rattle.own_code.specs.Relations.{bare, Alike, Stays, IsPort}
use Rattle.own_code.proofs.Apart.{path_decides, apart_names, free_apart, field_writable, field_spec, metadata_writable, metadata_spec}
use Rattle.own_code.proofs.Own.{stays_same, stays_then, set_alike, set_stays, keeps_other, valid_ran}
use Rattle.packet_lengths.specs.Lengths.{length_path, plain_store, Near}
use Rattle.monitor_laws.specs.Names.{tele_header, mark_path}
use Rattle.monitor_laws.specs.Telemetry.{mark_field, mark_word, tele_bytes, AreFor, HasWords, zeros}
use Rattle.monitor_laws.specs.Trees.{number}
use Rattle.monitor_laws.specs.Monitor.{Monitor}
use Rattle.monitor_laws.specs.MonitorLaws.{HasTele, MonitorLaws}
use Rattle.monitor_laws.proofs.Fields.{has_same, all_names, fill, fill_other, fill_headers, fill_has, zero_is, zeros_has}
use Rattle.monitor_laws.proofs.Bytes.{reading_at, IsWhole, bits_of_bytes, whole_byte, length-words, words_taken, whole_words, length-bytes}
use Rattle.monitor_laws.proofs.Frames.{open_by, written_open}
use Rattle.linked_halves.specs.ParserStates.{link_cases, first_state, taken_state, own_name, own_state, linked_states}
use Rattle.linked_halves.specs.LinkedParts.{telemetry, Declarations, linked_parts}
use Rattle.linked_halves.specs.Held.{is_in}
use Rattle.linked_halves.proofs.Ports.{case_is}
use Rattle.linked_halves.proofs.Parse.{runs_both, passed_over}

-- words of the telemetry stay where own code ran
pub tele_words_stay : (fs : List Field) (ws : List Word) (a b : Run) → HasWords tele_header fs ws a.store → Stays a b → HasWords tele_header fs ws b.store
tele_words_stay fs ws a b h s = has_same tele_header fs ws a.store b.store (λ n. s.values (tele_header ++ n ∷ []) refl) h

-- the linked store of a frame that came by an edge port, before the telemetry header is made
pub record Begun (fs : List Field) (port : ℕ) (s : Store) : Type 0 where
  pub plain : s.headers [] ≡ None
  pub standard : s.headers (standard_root ∷ []) ≡ None
  pub invalid : s.headers tele_header ≡ Some false
  pub words : HasWords tele_header (mark_field ∷ fs) (zeros (mark_field ∷ fs)) s
  pub arrived : s.values ingress_port ≡ word 9 port
  pub spec : IsPort (s.values egress_spec)

-- what leaves the monitor's part alone keeps such a store
pub begun_stays : (fs : List Field) (port : ℕ) (a b : Run) → Begun fs port a.store → Stays a b → Begun fs port b.store
begun_stays fs port a b h s =
    record {
      plain = s.headers [] refl ∙ h.plain;
      standard = s.headers (standard_root ∷ []) refl ∙ h.standard;
      invalid = s.headers tele_header refl ∙ h.invalid;
      words = tele_words_stay (mark_field ∷ fs) (zeros (mark_field ∷ fs)) a b h.words s;
      arrived = s.values ingress_port refl ∙ h.arrived;
      spec = s.spec h.spec;
    }

module _ {T Z C : Type 0} (m : Monitor T Z C) (Fit : T → Type 0) (Keeps : Z → (ℕ → C) → Kept → Type 0) where
  -- the linked store of a frame that came by a link, behind the parser
  pub record Taken (port : ℕ) (t : T) (s : Store) : Type 0 where
    pub tele : HasTele m Fit Keeps s t
    pub arrived : s.values ingress_port ≡ word 9 port
    pub spec : IsPort (s.values egress_spec)

  -- what leaves the monitor's part alone keeps the telemetry
  pub tele_stays : (t : T) (a b : Run) → HasTele m Fit Keeps a.store t → Stays a b → HasTele m Fit Keeps b.store t
  tele_stays t a b h s =
      record {
        plain = s.headers [] refl ∙ h.plain;
        standard = s.headers (standard_root ∷ []) refl ∙ h.standard;
        valid = s.headers tele_header refl ∙ h.valid;
        mark = s.values mark_path refl ∙ h.mark;
        words = tele_words_stay m.fields (m.words t) a b h.words s;
        fits = h.fits;
      }

  pub taken_stays : (port : ℕ) (t : T) (a b : Run) → Taken port t a.store → Stays a b → Taken port t b.store
  taken_stays port t a b h s =
      record { tele = tele_stays t a b h.tele s; arrived = s.values ingress_port refl ∙ h.arrived; spec = s.spec h.spec }

-- the stores a and b are alike, and b has the monitor's part of c
record Ready (c a b : Store) : Type 0 where
  alike : Alike (bare a) (bare b)
  stays : Stays (bare c) (bare b)

-- the fields are the program's own, and none is the port by which a frame is to leave
abbrev AreOwnFields : List (List ℕ) → List Field → Type 0
AreOwnFields p fs = AllByRecursion (λ f. (is_writable (p ++ f.name ∷ []) ≡ true) × (same_path (p ++ f.name ∷ []) egress_spec ≡ false)) fs

header_fields : (p : List (List ℕ)) (fs : List Field) → is_own_header p ≡ true → AreOwnFields p fs
header_fields p [] o = tt
header_fields p (f ∷ fs) o = ((field_writable p f.name o, field_spec p f.name o), header_fields p fs o)

metadata_fields : (fs : List Field) → AllByRecursion (λ f. is_mine f.name ≡ false) fs → AreOwnFields (metadata_root ∷ []) fs
metadata_fields [] o = tt
metadata_fields (f ∷ fs) o = ((metadata_writable f.name o.0, metadata_spec f.name), metadata_fields fs o.1)

zero_ready : (p : List (List ℕ)) (fs : List Field) (a b : Store) → AreOwnFields p fs → Alike (bare a) (bare b) → Ready b (zero_fields p fs a) (zero_fields p fs b)
zero_ready p [] a b o h = record { alike = h; stays = stays_same (bare b) }
zero_ready p (f ∷ fs) a b o h =
    let w = word (sound_width f.width) 0 in
    let q = p ++ f.name ∷ [] in
    let one = set_alike (bare a) (bare b) q w w h refl in
    let kept = set_stays (bare b) q w o.0.0 (keeps_other (bare b) q w o.0.1) in
    let two = zero_ready p fs (set_value a q w) (set_value b q w) o.1 one in
    record { alike = two.alike; stays = stays_then (bare b) (bare (set_value b q w)) (bare (zero_fields p fs (set_value b q w))) kept two.stays }

headers_ready : (hs : List Header) (a b : Store) → AllByRecursion (λ h. is_own_header h.path ≡ true) hs → Alike (bare a) (bare b) → Ready b (no_headers hs a) (no_headers hs b)
headers_ready [] a b o h = record { alike = h; stays = stays_same (bare b) }
headers_ready (k ∷ ks) a b o h =
    let a1 = set_valid a k.path false in
    let b1 = set_valid b k.path false in
    let a2 = zero_fields k.path k.fields a1 in
    let b2 = zero_fields k.path k.fields b1 in
    let one = valid_ran (bare a) (bare b) k.path false o.0 h in
    let two = zero_ready k.path k.fields a1 b1 (header_fields k.path k.fields o.0) one.alike in
    let three = headers_ready ks a2 b2 o.1 two.alike in
    record {
      alike = three.alike;
      stays = stays_then (bare b) (bare b1) (bare (no_headers ks b2)) one.stays (stays_then (bare b1) (bare b2) (bare (no_headers ks b2)) two.stays three.stays);
    }

-- so they are with the standard metadata of frames of one length
standard_alike : (a b : Store) (port m : ℕ) → Alike (bare a) (bare b) → Alike (bare (with_standard port m a)) (bare (with_standard port m b))
standard_alike a b port m h =
    let p = word 9 (cast 9 port) in
    let z = word 9 0 in
    let a1 = set_value a ingress_port p in
    let b1 = set_value b ingress_port p in
    let a2 = set_value a1 egress_spec z in
    let b2 = set_value b1 egress_spec z in
    let a3 = set_value a2 egress_port z in
    let b3 = set_value b2 egress_port z in
    let a4 = set_value a3 packet_length (word 32 (cast 32 m)) in
    let b4 = set_value b3 packet_length (word 32 (cast 32 m)) in
    let one = set_alike (bare a) (bare b) ingress_port p p h refl in
    let two = set_alike (bare a1) (bare b1) egress_spec z z one refl in
    let three = set_alike (bare a2) (bare b2) egress_port z z two refl in
    let four = set_alike (bare a3) (bare b3) packet_length (word 32 (cast 32 m)) (word 32 (cast 32 m)) three refl in
    let five = set_alike (bare a4) (bare b4) checksum_error (word 1 0) (word 1 0) four refl in
    set_alike (bare (set_value a4 checksum_error (word 1 0))) (bare (set_value b4 checksum_error (word 1 0))) parser_error (word 2 0) (word 2 0) five refl

-- of two lengths only the length tells
standard_other : (s : Store) (port m n : ℕ) (q : List (List ℕ)) → same_path packet_length q ≡ false → (with_standard port n s).values q ≡ (with_standard port m s).values q
standard_other s port m n q e =
    let rest : Store = set_value (set_value (set_value s ingress_port (word 9 (cast 9 port))) egress_spec (word 9 0)) egress_port (word 9 0) in
    let at : Word → Bool → Word = λ w t. cond (same_path parser_error q) (word 2 0) (cond (same_path checksum_error q) (word 1 0) (cond t w (rest.values q))) in
    ap (at (word 32 (cast 32 n))) e ∙ sym (ap (at (word 32 (cast 32 m))) e)

-- an assignment in a state
assigned_is : (s : Store) (e : Expr) (u w : Word) → s.headers (metadata_root ∷ []) ≡ None → s.values length_path ≡ u → value_of e u.width s ≡ w → assigned s length_path (value_of e (s.values length_path).width s) ≡ set_value s length_path (cast_word (sound_width u.width) w)
assigned_is s e u w o h k =
    written_open (s.headers (metadata_root ∷ [])) s length_path _ (open_by (s.headers (metadata_root ∷ [])) None o tt)
    ∙ ap (λ (v : Word). set_value s length_path (cast_word (sound_width v.width) (value_of e v.width s))) h
    ∙ ap (λ v. set_value s length_path (cast_word (sound_width u.width) v)) k

-- where the length without telemetry stands
abbrev pub measured : Store → ℕ → Store
measured s n = set_value s length_path (word 32 (cast 32 n))

-- what both parsers leave
pub record Behind (Fact : Store → Type 0) (x y : ParserEnd) : Type 0 where
  pub alike : Near x.reading.store y.reading.store
  pub fact : Fact y.reading.store
  pub rest : y.reading.rest ≡ x.reading.rest
  pub error : y.error ≡ x.error

module _ {T Z C : Type 0} (m : Monitor T Z C) (Fit : T → Type 0) (Keeps : Z → (ℕ → C) → Kept → Type 0) (FitView : List Word → Type 0) (IsVariable : ℕ → Type 0) (IsFitContents : (variable : ℕ) → C → Type 0)
    (laws : MonitorLaws m Fit Keeps FitView IsVariable IsFitContents) (f : Parts) (own : IsForwarding f) (sw : ℕ) (links : List ℕ) (low : AllByRecursion (λ n. n < 512) links) (decls : Declarations)
  where
    abbrev linked_headers : List Header
    linked_headers = telemetry m.fields ∷ f.headers

    abbrev states : List ParserState
    states = linked_states decls.packet (suc m.room) links f.states

    abbrev all_fields : List Field
    all_fields = mark_field ∷ m.fields

    -- the telemetry header before the parser
    abbrev bare_header : Store
    bare_header = set_valid blank tele_header false

    abbrev base : Store
    base = zero_fields tele_header all_fields bare_header

    base_is : base ≡ fill tele_header all_fields (zeros all_fields) bare_header
    base_is = zero_is tele_header all_fields bare_header

    base_headers : (q : List (List ℕ)) → base.headers q ≡ bare_header.headers q
    base_headers q = ap (λ (s : Store). s.headers q) base_is ∙ ap (λ g. g q) (fill_headers tele_header all_fields (zeros all_fields) bare_header)

    -- a path that is not the monitor's is none of its fields
    no_field : (fs : List Field) (q : List (List ℕ)) → is_free q ≡ true → AllByRecursion (λ f. same_path (tele_header ++ f.name ∷ []) q ≡ false) fs
    no_field fs q o = all_names (λ n. same_path (tele_header ++ n ∷ []) q ≡ false) fs (λ n. free_apart (tele_header ++ n ∷ []) q refl o)

    base_alike : Alike (bare blank) (bare base)
    base_alike =
        record {
          values = λ q i. ap (λ (s : Store). s.values q) base_is ∙ fill_other tele_header all_fields (zeros all_fields) bare_header q (no_field all_fields q i);
          headers = λ q o. base_headers q ∙ ap (λ t. cond t (Some false) None) (free_apart tele_header q refl o);
          cells = λ x i. refl;
          digests = refl;
        }

    base_words : HasWords tele_header all_fields (zeros all_fields) base
    base_words = subst (λ s. HasWords tele_header all_fields (zeros all_fields) s) (sym base_is) (zeros_has tele_header all_fields bare_header laws.apart)

    abbrev plain_zeros : Store
    plain_zeros = zero_fields (metadata_root ∷ []) f.metadata (no_headers f.headers blank)

    abbrev header_zeros : Store
    header_zeros = no_headers f.headers base

    abbrev length_zero : Store
    length_zero = set_value header_zeros length_path (word 32 0)

    abbrev linked_zeros : Store
    linked_zeros = zero_fields (metadata_root ∷ []) f.metadata length_zero

    headers_zero : Ready base (no_headers f.headers blank) header_zeros
    headers_zero = headers_ready f.headers blank base own.headers base_alike

    length_alike : Alike (bare (no_headers f.headers blank)) (bare length_zero)
    length_alike =
        let h = headers_zero.alike in
        record { values = λ q i. ap (λ t. cond t (word 32 0) (header_zeros.values q)) (free_apart length_path q refl i) ∙ h.values q i; headers = λ q o. h.headers q o; cells = λ x i. refl; digests = refl }

    zeros_ready : Ready length_zero plain_zeros linked_zeros
    zeros_ready = zero_ready (metadata_root ∷ []) f.metadata (no_headers f.headers blank) length_zero (metadata_fields f.metadata own.metadata) length_alike

    abbrev plain_before : (port len : ℕ) → Store
    plain_before port len = store_before f port len

    abbrev linked_before : (port len : ℕ) → Store
    linked_before port len = store_before (linked_parts m sw links f decls) port len

    -- but for the length, which is put in its place
    before_alike : (port m : ℕ) → Alike (bare (plain_before port m)) (bare (with_standard port m linked_zeros))
    before_alike port n = standard_alike plain_zeros linked_zeros port n zeros_ready.alike

    zeros_headers : (q : List (List ℕ)) → is_own_header q ≡ false → linked_zeros.headers q ≡ bare_header.headers q
    zeros_headers q o = zeros_ready.stays.headers q o ∙ (headers_zero.stays.headers q o ∙ base_headers q)

    before_begun : (port n : ℕ) → port < 512 → Begun m.fields port (linked_before port n)
    before_begun port n lt =
        record {
          plain = zeros_headers [] refl;
          standard = zeros_headers (standard_root ∷ []) refl;
          invalid = zeros_headers tele_header refl;
          words =
              has_same tele_header all_fields (zeros all_fields) linked_zeros (linked_before port n) (λ k. refl)
              (tele_words_stay all_fields (zeros all_fields) (bare length_zero) (bare linked_zeros)
              (has_same tele_header all_fields (zeros all_fields) header_zeros length_zero (λ k. refl) (tele_words_stay all_fields (zeros all_fields) (bare base) (bare header_zeros) base_words headers_zero.stays)) zeros_ready.stays);
          arrived = ap (word 9) (cast_of_small 9 port lt);
          spec = record { width = refl; low = omega arith };
        }

    before_meta : (port n : ℕ) → (linked_before port n).headers (metadata_root ∷ []) ≡ None
    before_meta port n = zeros_headers (metadata_root ∷ []) refl

    before_length : (port n : ℕ) → (linked_before port n).values length_path ≡ word 32 0
    before_length port n = zeros_ready.stays.values length_path refl

    -- a store that has the own part of the store before the parser, and the length
    near_measured : (port k n : ℕ) (y : Store) → ((q : List (List ℕ)) → is_free q ≡ true → y.values q ≡ (linked_before port n).values q) → ((q : List (List ℕ)) → is_free q ≡ true → y.headers q ≡ (linked_before port n).headers q)
        → y.headers (standard_root ∷ []) ≡ None → y.headers (metadata_root ∷ []) ≡ None → Near (plain_before port k) (measured y k)
    near_measured port k n y values headers standard meta =
        let w : Word = word 32 (cast 32 k) in
        let h = before_alike port k in
        let at : (q : List (List ℕ)) → is_free q ≡ true → (t : Bool) → same_path packet_length q ≡ t → (plain_store (measured y k)).values q ≡ (plain_before port k).values q =
        λ q i t. elim t as (λ t. same_path packet_length q ≡ t → (plain_store (measured y k)).values q ≡ (plain_before port k).values q) [
          | true ↦ λ e. ap (λ t. cond t w (cond (same_path length_path q) w (y.values q))) e ∙ ap (λ q. (plain_before port k).values q) ((path_decides packet_length q).0 e)
          | false ↦ λ e. ap (λ t. cond t w (cond (same_path length_path q) w (y.values q))) e
              ∙ ap (λ t. cond t w (y.values q)) (free_apart length_path q refl i)
              ∙ values q i ∙ standard_other linked_zeros port k n q e ∙ h.values q i
        ] in
        record {
          alike = record { values = λ q i. at q i (same_path packet_length q) refl; headers = λ q o. headers q o ∙ h.headers q o; cells = λ x i. refl; digests = refl };
          standard = standard;
          meta = meta;
        }

    begun_measured : (port k : ℕ) (y : Store) → Begun m.fields port y → Begun m.fields port (measured y k)
    begun_measured port k y h =
        record { plain = h.plain; standard = h.standard; invalid = h.invalid; words = has_same tele_header all_fields (zeros all_fields) y (measured y k) (λ n. refl) h.words; arrived = h.arrived; spec = h.spec }

    -- the first state leads on by the port of arrival
    first_turn : (port n : ℕ) (y : Reading) → Begun m.fields port y.store → y.store.headers (metadata_root ∷ []) ≡ None → y.store.values length_path ≡ word 32 0 → y.store.values packet_length ≡ word 32 (cast 32 n) → port < 512
        → turned (body_parsed linked_headers (first_state links).body y) (first_state links).next ≡ leads (if is_in port links then codes "hydra_taken" else codes "hydra_start") (reading_at (measured y.store n) y.rest)
    first_turn port n y h meta old len lt =
        let next = select 0 (path 0 ingress_port ∷ []) (link_cases links) in
        let twice : cast 32 (cast 32 n) ≡ cast 32 n = omega arith in
        let z = reading_at (measured y.store n) y.rest in
        ap (λ u. turned (goes_on (reading_at u y.rest)) next) (assigned_is y.store (path 0 packet_length) (word 32 0) (word 32 (cast 32 n)) meta old (ap₂ shown h.standard len) ∙ ap (λ k. set_value y.store length_path (word 32 k)) twice)
        ∙ ap (λ w. led (chosen (first_fit (link_cases links) (w ∷ []) z.store)) z) (ap₂ shown h.standard h.arrived)
        ∙ ap (λ o. led (chosen o) z) (case_is links z.store port lt low)

    abbrev filled : T → Store → Store
    filled t s = fill tele_header m.fields (m.words t) (set_value s mark_path (mark_word m.mark))

    abbrev taken_store : T → Store → Store
    taken_store t s = set_valid (filled t s) tele_header true

    abbrev all_words : T → List Word
    all_words t = mark_word m.mark ∷ m.words t

    all_for : (t : T) → Fit t → AreFor all_fields (all_words t)
    all_for t fits = (refl, laws.marked, laws.fitting t fits)

    all_whole : (t : T) → Fit t → IsWhole (words_bits (all_words t))
    all_whole t fits = whole_byte m.mark (words_bits (m.words t)) (whole_words m.room m.fields (m.words t) (laws.fitting t fits) laws.whole)

    -- what the telemetry's bytes make of the store, and that it is alike still
    filled_other : (t : T) (s : Store) (q : List (List ℕ)) → is_free q ≡ true → (filled t s).values q ≡ s.values q
    filled_other t s q o =
        fill_other tele_header m.fields (m.words t) (set_value s mark_path (mark_word m.mark)) q (no_field m.fields q o)
        ∙ ap (λ b. cond b (mark_word m.mark) (s.values q)) (free_apart mark_path q refl o)

    filled_headers : (t : T) (s : Store) (q : List (List ℕ)) → (filled t s).headers q ≡ s.headers q
    filled_headers t s q = ap (λ g. g q) (fill_headers tele_header m.fields (m.words t) (set_value s mark_path (mark_word m.mark)))

    filled_meta : (t : T) (s : Store) → (filled t s).values length_path ≡ s.values length_path
    filled_meta t s = fill_other tele_header m.fields (m.words t) (set_value s mark_path (mark_word m.mark)) length_path (all_names (λ n. same_path (tele_header ++ n ∷ []) length_path ≡ false) m.fields (λ n. refl))

    -- the second takes the telemetry
    second_turn : (k n : ℕ) (t : T) (s : Store) (rest : List ℕ) → Fit t → s.headers (metadata_root ∷ []) ≡ None → s.headers (standard_root ∷ []) ≡ None → s.values packet_length ≡ word 32 (cast 32 n) → n ≡ suc m.room + k
        → turned (body_parsed linked_headers (taken_state decls.packet (suc m.room)).body (reading_at (measured s n) (words_bits (all_words t) ++ rest))) (taken_state decls.packet (suc m.room)).next ≡ leads (codes "hydra_start") (reading_at (measured (taken_store t (measured s n)) k) rest)
    second_turn k n t s rest fits meta standard len is =
        let bits = words_bits (all_words t) in
        let s1 = measured s n in
        let y = reading_at s1 (bits ++ rest) in
        let z = reading_at (filled t s1) rest in
        let s2 = taken_store t s1 in
        let same : length bits ≡ width_sum all_fields = length-words all_fields (all_words t) (all_for t fits) in
        let long : length (bits ++ rest) ≡ width_sum all_fields + length rest = length-append bits rest ∙ ap (λ n. n + length rest) same in
        let enough : nat_lt (length (bits ++ rest)) (width_sum all_fields) ≡ false = grind (arith, nat_tests, long) in
        let got : extracted (telemetry m.fields) y ≡ goes_on (with_valid tele_header z) =
        ap (λ b. cond b (stops y PacketTooShort) (goes_on (with_valid tele_header (fields_taken tele_header all_fields y)))) enough
        ∙ ap (λ v. goes_on (with_valid tele_header v)) (words_taken tele_header all_fields (all_words t) s1 rest (all_for t fits)) in
        let less : Expr = binary 0 p4.Sub (path 0 packet_length) (number 0 (suc m.room)) in
        let sum_of : Word → Word = λ w. operate p4.Sub (cast_word (sound_width (either_width (either_width w.width 0) 32)) w) (cast_word (sound_width (either_width (either_width w.width 0) 32)) (word (sound_width (either_width 0 (either_width (either_width w.width 0) 32))) (cast (sound_width (either_width 0 (either_width (either_width w.width 0) 32))) (suc m.room)))) in
        let read_is : read s2 packet_length ≡ word 32 (cast 32 n) = ap₂ shown (filled_headers t s1 (standard_root ∷ []) ∙ standard) (filled_other t s1 packet_length refl ∙ len) in
        let value : value_of less 32 s2 ≡ sum_of (word 32 (cast 32 n)) = ap sum_of read_is in
        let old : s2.values length_path ≡ word 32 (cast 32 n) = filled_meta t s1 in
        let room = m.room in
        let number_is : cast 32 (sub 32 (cast 32 (cast 32 n)) (cast 32 (cast 32 (suc m.room)))) ≡ cast 32 k = omega (arith, is) in
        let stored : assigned s2 length_path (value_of less (s2.values length_path).width s2) ≡ measured s2 k =
        assigned_is s2 less (word 32 (cast 32 n)) (sum_of (word 32 (cast 32 n))) (filled_headers t s1 (metadata_root ∷ []) ∙ meta) old value
        ∙ ap (λ j. set_value s2 length_path (word 32 j)) number_is in
        ap (λ r. turned (unless_stopped r (λ v. goes_on (reading_at (assigned v.store length_path (value_of less (v.store.values length_path).width v.store)) v.rest))) (to 0 (codes "hydra_start"))) got
        ∙ ap (λ u. leads (codes "hydra_start") (reading_at u rest)) stored

    -- no own state leads to the second
    not_taken : (n : List ℕ) → is_mine n ≡ false → same_text (codes "hydra_taken") (own_name n) ≡ false
    not_taken n i = go (same_text n (codes "start")) refl
      where
        go : (b : Bool) → same_text n (codes "start") ≡ b → same_text (codes "hydra_taken") (own_name n) ≡ false
        go true e = ap (λ b. same_text (codes "hydra_taken") (cond b (codes "hydra_start") n)) e
        go false e = ap (λ b. same_text (codes "hydra_taken") (cond b (codes "hydra_start") n)) e ∙ apart_names is_mine (codes "hydra_taken") n refl i

    -- how the two parsers end on the bits of a frame of a length
    abbrev pub plain_end : (port : ℕ) → List ℕ → ParserEnd
    plain_end port frame = parse_of f.headers f.states (reading_at (plain_before port (length frame)) (bits_of frame))

    abbrev pub linked_end : (port : ℕ) → List ℕ → ParserEnd
    linked_end port frame = parse_of linked_headers states (reading_at (linked_before port (length frame)) (bits_of frame))

    more : length states ≡ suc (suc (length f.states))
    more = ap (λ n. suc (suc n)) (length-map f.states own_state)

    -- the telemetry's bytes
    pub bytes_sized : (t : T) → Fit t → length (tele_bytes m.mark (m.words t)) ≡ suc m.room
    bytes_sized t fits =
        let for_fields = laws.fitting t fits in
        ap suc (length-bytes m.room (words_bits (m.words t)) (whole_words m.room m.fields (m.words t) for_fields laws.whole) (length-words m.fields (m.words t) for_fields ∙ laws.whole))

    -- a frame that came by an edge port
    pub edge_parsed : (port : ℕ) (frame : List ℕ) → port < 512 → is_in port links ≡ false → Behind (Begun m.fields port) (plain_end port frame) (linked_end port frame)
    edge_parsed port frame lt out =
        let x = reading_at (plain_before port (length frame)) (bits_of frame) in
        let y = reading_at (linked_before port (length frame)) (bits_of frame) in
        let turns = suc (suc (length f.states)) in
        let b = before_begun port (length frame) lt in
        let z = reading_at (measured y.store (length frame)) y.rest in
        let near = near_measured port (length frame) (length frame) y.store (λ q i. refl) (λ q i. refl) b.standard (before_meta port (length frame)) in
        let own_states = map own_state f.states in
        let taken = taken_state decls.packet (suc m.room) in
        let same = runs_both m.fields f.headers own.headers turns f.states (codes "start") x z own.states refl near refl in
        let linked_is : linked_end port frame ≡ turns_of turns linked_headers own_states (codes "hydra_start") z =
        ap (λ r. on_turned r (turns_of (length states) linked_headers (taken ∷ own_states))) (first_turn port (length frame) y b (before_meta port (length frame)) (before_length port (length frame)) refl lt)
        ∙ ap (λ i. turns_of (length states) linked_headers (taken ∷ own_states) (if i then codes "hydra_taken" else codes "hydra_start") z) out
        ∙ ap (λ k. turns_of k linked_headers (taken ∷ own_states) (codes "hydra_start") z) more
        ∙ passed_over m.fields f.headers own.headers taken not_taken turns f.states (codes "start") z own.states refl in
        let done : Behind (Begun m.fields port) (turns_of turns f.headers f.states (codes "start") x) (turns_of turns linked_headers own_states (codes "hydra_start") z) =
        record { alike = same.took.near; fact = begun_stays m.fields port (bare z.store) (bare (turns_of turns linked_headers own_states (codes "hydra_start") z).reading.store) (begun_measured port (length frame) y.store b) same.took.stays; rest = same.took.rest; error = same.error } in
        subst (λ v. Behind (Begun m.fields port) (plain_end port frame) v) (sym linked_is)
        (subst (λ u. Behind (Begun m.fields port) u (turns_of turns linked_headers own_states (codes "hydra_start") z)) (one_turn_more f.headers (suc (length f.states)) f.states (codes "start") x (omega arith)) done)

    filled_words : (t : T) (s : Store) → Fit t → HasWords tele_header all_fields (all_words t) (filled t s)
    filled_words t s fits = fill_has tele_header all_fields (all_words t) s laws.apart (all_for t fits)

    taken_begun : (port : ℕ) (t : T) (s : Store) → Begun m.fields port s → Fit t → Taken m Fit Keeps port t (taken_store t s)
    taken_begun port t s h fits =
        let words = filled_words t s fits in
        record {
          tele =
              record {
                plain = filled_headers t s [] ∙ h.plain;
                standard = filled_headers t s (standard_root ∷ []) ∙ h.standard;
                valid = refl;
                mark = words.0;
                words = has_same tele_header m.fields (m.words t) (filled t s) (taken_store t s) (λ k. refl) words.1;
                fits = fits;
              };
          arrived = filled_other t s ingress_port refl ∙ h.arrived;
          spec = subst IsPort (sym (filled_other t s egress_spec refl)) h.spec;
        }

    taken_measured : (port k : ℕ) (t : T) (y : Store) → Taken m Fit Keeps port t y → Taken m Fit Keeps port t (measured y k)
    taken_measured port k t y h =
        let g = h.tele in
        record { tele = record { plain = g.plain; standard = g.standard; valid = g.valid; mark = g.mark; words = has_same tele_header m.fields (m.words t) y (measured y k) (λ n. refl) g.words; fits = g.fits }; arrived = h.arrived; spec = h.spec }

    -- a frame that came by a link, behind the telemetry
    pub link_parsed : (port : ℕ) (frame : List ℕ) (t : T) → port < 512 → is_in port links ≡ true → Fit t → Behind (Taken m Fit Keeps port t) (plain_end port frame) (linked_end port (tele_bytes m.mark (m.words t) ++ frame))
    link_parsed port frame t lt at fits =
        let bits = words_bits (all_words t) in
        let n = length (tele_bytes m.mark (m.words t) ++ frame) in
        let k = length frame in
        let s = linked_before port n in
        let x = reading_at (plain_before port k) (bits_of frame) in
        let y = reading_at s (bits ++ bits_of frame) in
        let y1 = reading_at (measured s n) (bits ++ bits_of frame) in
        let s2 = taken_store t (measured s n) in
        let z = reading_at (measured s2 k) (bits_of frame) in
        let turns = suc (length f.states) in
        let b = before_begun port n lt in
        let bytes : n ≡ suc m.room + k = length-append (tele_bytes m.mark (m.words t)) frame ∙ ap (λ j. j + k) (bytes_sized t fits) in
        let split : bits_of (tele_bytes m.mark (m.words t) ++ frame) ≡ bits ++ bits_of frame = bits_of-append (tele_bytes m.mark (m.words t)) frame ∙ ap (λ l. l ++ bits_of frame) (bits_of_bytes bits (all_whole t fits)) in
        let near = near_measured port k n s2
        (λ q i. filled_other t (measured s n) q i ∙ ap (λ t. cond t (word 32 (cast 32 n)) (s.values q)) (free_apart length_path q refl i))
        (λ q i. ap (λ b. cond b (Some true) ((filled t (measured s n)).headers q)) (free_apart tele_header q refl i) ∙ filled_headers t (measured s n) q)
        (filled_headers t (measured s n) (standard_root ∷ []) ∙ b.standard) (filled_headers t (measured s n) (metadata_root ∷ []) ∙ before_meta port n) in
        let own_states = map own_state f.states in
        let taken_first = taken_state decls.packet (suc m.room) in
        let same = runs_both m.fields f.headers own.headers turns f.states (codes "start") x z own.states refl near refl in
        let linked_is : linked_end port (tele_bytes m.mark (m.words t) ++ frame) ≡ turns_of turns linked_headers own_states (codes "hydra_start") z =
        ap (λ l. turns_of (suc (length states)) linked_headers states (codes "start") (reading_at s l)) split
        ∙ ap (λ r. on_turned r (turns_of (length states) linked_headers (taken_first ∷ own_states))) (first_turn port n y b (before_meta port n) (before_length port n) refl lt)
        ∙ ap (λ i. turns_of (length states) linked_headers (taken_first ∷ own_states) (if i then codes "hydra_taken" else codes "hydra_start") y1) at
        ∙ ap (λ k. turns_of k linked_headers (taken_first ∷ own_states) (codes "hydra_taken") y1) more
        ∙ ap (λ r. on_turned r (turns_of turns linked_headers own_states)) (second_turn k n t s (bits_of frame) fits (before_meta port n) b.standard refl bytes) in
        let taken = taken_measured port k t s2 (taken_begun port t (measured s n) (begun_measured port n s b) fits) in
        let done : Behind (Taken m Fit Keeps port t) (plain_end port frame) (turns_of turns linked_headers own_states (codes "hydra_start") z) =
        record { alike = same.took.near; fact = taken_stays m Fit Keeps port t (bare z.store) (bare (turns_of turns linked_headers own_states (codes "hydra_start") z).reading.store) taken same.took.stays; rest = same.took.rest; error = same.error } in
        subst (λ v. Behind (Taken m Fit Keeps port t) (plain_end port frame) v) (sym linked_is) done
