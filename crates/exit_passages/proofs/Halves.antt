-- Both halves of a passage of a program without exits.
use Rattle.std.proofs.Common.{◌≡◌, ℕ, List, [], ◌∷◌, ◌++◌, length, Bool, true, false, ◌||◌, cond, Some, None, refl, ap, ap₂, ◌∙◌, subst}
use Rattle.std.specs.Prelude.{nat_eq}
use Rattle.std.specs.List.{AllByRecursion}
use Rattle.bit_values.specs.Bits.{Word, word, cast}
use Rattle.bit_values.specs.Bytes.{bits_of}
use Rattle.lex_text.specs.Names.{same_path}
use Rattle.p4_tree.specs.Tree.{Program}
use Rattle.p4_meaning.specs.Standard.{standard_paths, metadata_root, egress_spec, egress_port}
use Rattle.p4_meaning.specs.Store.{Store, set_value}
use Rattle.p4_meaning.specs.Statements.{Run, no_calls, meaning_of}
use Rattle.p4_meaning.specs.Parsing.{Field, Header, Reading, parse_of}
use Rattle.p4_meaning.specs.Tables.{Tables, calls_in}
use Rattle.p4_meaning.specs.Parts.{Parts, whole, parts_of}
use Rattle.p4_meaning.specs.Pass.{Registers, Queued, Going, run_from, store_before, store_behind, is_dropped, unless_dropped, is_field_of, is_header_field, is_one_path, is_declared_path, is_declared_header, declared, to_egress, parts_enter, parts_leave, left_behind}
use Rattle.p4_meaning.specs.Laws.{AreListed}
use Rattle.exit_statements.specs.Actions.{RunListed}
use Rattle.exit_statements.specs.Controls.{is_long, AreLong, SameButVariables, LeaveAlike}
use Rattle.exit_statements.proofs.Controlled.{longer}
use Rattle.exit_programs.specs.Programs.{flags}
use Rattle.exit_programs.specs.Names.{HasGivenNames}
use Rattle.exit_programs.specs.Owned.{all_actions, all_tables, OwnsWhatItUses, ComputeIsPlain}
use Rattle.exit_programs.specs.Without.{parts_without}
use Rattle.exit_passages.specs.Passages.{IsQueued, SameEnds, LeavesSame, PassesSame, PassesAgree}
use Rattle.exit_programs.proofs.Apart.{OwnApart, apart}
use Rattle.exit_passages.proofs.Listed.{run_listed}
use Rattle.exit_passages.proofs.Starts.{long_off, starts}
use Rattle.exit_passages.proofs.Spared.{states_spared, verify_spared, headers_long}
use Rattle.exit_passages.proofs.Passages.{enter_same, leave_alike}

-- ---- queued states

no_field : (x : List ℕ) (above : List (List ℕ)) (fs : List Field) → ((y : List ℕ) → is_long (above ++ y ∷ []) ≡ true) → is_field_of above fs (x ∷ []) ≡ false
no_field x above [] l = refl
no_field x above (f ∷ fs) l = ap₂ (λ (a b : Bool). a || b) (long_off x (above ++ f.name ∷ []) (l f.name)) (no_field x above fs l)

no_header_field : (x : List ℕ) (hs : List Header) → AreLong hs → is_header_field hs (x ∷ []) ≡ false
no_header_field x [] l = refl
no_header_field x (h ∷ hs) l = ap₂ (λ (a b : Bool). a || b) (no_field x h.path h.fields (λ y. longer h.path y l.0)) (no_header_field x hs l.1)

no_standard : (x : List ℕ) → is_one_path standard_paths (x ∷ []) ≡ false
no_standard x = go standard_paths (refl, (refl, (refl, (refl, (refl, (refl, tt))))))
  where
    go : (ps : List (List (List ℕ))) → AllByRecursion (λ p. is_long p ≡ true) ps → is_one_path ps (x ∷ []) ≡ false
    go [] l = refl
    go (p ∷ ps) l = ap₂ (λ (a b : Bool). a || b) (long_off x p l.0) (go ps l.1)

no_variable : (p : Parts) (x : List ℕ) → AreLong p.headers → is_declared_path p (x ∷ []) ≡ false
no_variable p x l = ap₂ (λ (a b : Bool). a || b) (no_standard x) (ap₂ (λ (a b : Bool). a || b) (no_field x (metadata_root ∷ []) p.metadata (λ y. refl)) (no_header_field x p.headers l))

no_header : (hs : List Header) → AreLong hs → is_declared_header hs [] ≡ false
no_header [] l = refl
no_header (h ∷ hs) l = ap₂ (λ (a b : Bool). a || b) (some h.path l.0) (no_header hs l.1)
  where
    some : (q : List (List ℕ)) → is_long q ≡ true → same_path q [] ≡ false
    some [] e = absurd (cc e)
    some (x ∷ rest) e = refl

queued : (p : Parts) (s : Store) (rest : List ℕ) → AreLong p.headers → IsQueued (record { store = to_egress p s; rest = rest })
queued p s rest l =
    record {
      plain = ap (λ (b : Bool). cond b (s.headers []) None) (no_header p.headers l);
      blank = λ x.
          ap (λ (b : Bool). cond b (word 9 0) ((set_value (declared p s) egress_port (word 9 (cast 9 (s.values egress_spec).value))).values (x ∷ []))) (long_off x egress_spec refl)
          ∙ (ap (λ (b : Bool). cond b (word 9 (cast 9 (s.values egress_spec).value)) ((declared p s).values (x ∷ []))) (long_off x egress_port refl)
          ∙ ap (λ (b : Bool). cond b (s.values (x ∷ [])) (word 1 0)) (no_variable p x l));
    }

unless_is : (b : Bool) (q w : Queued) → unless_dropped b q ≡ Some w → q ≡ w
unless_is true q w e = absurd (cc e)
unless_is false q w e = cc e

ends_by : (b c : Bool) (g h : Going) → c ≡ b → SameButVariables g.exit_state h.exit_state → SameEnds (unless_dropped b g) (unless_dropped c h)
ends_by true true g h e k = tt
ends_by false false g h e k = k
ends_by true false g h e k = absurd (cc e)
ends_by false true g h e k = absurd (cc e)

-- ---- the halves

module _ (p : Program) (given : HasGivenNames p) (apart : OwnApart p.tops) (ingress : OwnsWhatItUses p 2) (egress : OwnsWhatItUses p 3) (computes : ComputeIsPlain p)
    (listed : (held : Tables) → AreListed (parts_of p) held → RunListed (all_actions p) (all_tables p) held) where
  long : AreLong (parts_of p).headers
  long = headers_long p given apart

  enters : (held : Tables) → AreListed (parts_of p) held → (cells : Registers) (port : ℕ) (frame : List ℕ) → parts_enter (parts_without p) held cells port frame ≡ parts_enter (parts_of p) held cells port frame
  unfolding parts_enter
  enters held l cells port frame =
      (let reading : Reading = record { store = store_before (parts_of p) port (length frame); rest = bits_of frame } in
      let e = parse_of (parts_of p).headers (parts_of p).states reading in
      let r = (meaning_of no_calls (parts_of p).verify (run_from (store_behind e) cells)).0 in
      let kept = starts flags.left (parts_of p) cells port frame long (states_spared p given apart) (verify_spared p given apart) in
      enter_same p 2 ingress held (listed held l) long r.store e.reading.rest r (record { plain = kept.plain; unset = λ off. kept.value }))

  leaves : (held : Tables) → AreListed (parts_of p) held → (cells : Registers) (w : Queued) → IsQueued w → LeavesSame (parts_leave (parts_of p) held cells w) (parts_leave (parts_without p) held cells w)
  unfolding parts_leave
  leaves held l cells w q = shown (leave_alike p 3 egress held (listed held l) long computes w.rest (run_from w.store cells) (record { plain = q.plain; unset = λ off. q.blank flags.left }))
    where
      shown : {x y : Run} → LeaveAlike (parts_of p) w.rest x y → LeavesSame (left_behind (parts_of p) w.rest x) (left_behind (parts_without p) w.rest y)
      shown {x = x} {y = y} k =
          record {
            registers = k.registers;
            digests = k.digests;
            sent_same = k.sent_same;
            ends = ends_by (is_dropped x.store) (is_dropped y.store) _ _ (ap (λ (w : Word). nat_eq w.value 511) (k.ends.values egress_spec refl)) k.ends;
          }

  queues : (held : Tables) (cells : Registers) (port : ℕ) (frame : List ℕ) (w : Queued) → (parts_enter (parts_of p) held cells port frame).queued ≡ Some w → IsQueued w
  unfolding parts_enter
  queues held cells port frame w e =
      (let reading : Reading = record { store = store_before (parts_of p) port (length frame); rest = bits_of frame } in
      let end = parse_of (parts_of p).headers (parts_of p).states reading in
      let r = (meaning_of no_calls (parts_of p).verify (run_from (store_behind end) cells)).0 in
      let s = (meaning_of (calls_in (parts_of p).actions (parts_of p).tables held) (whole (parts_of p).ingress) r).0.store in
      subst IsQueued (unless_is (is_dropped s) (record { store = to_egress (parts_of p) s; rest = end.reading.rest }) w e) (queued (parts_of p) s end.reading.rest long))

  pub passes_same : PassesSame (parts_of p) (parts_without p)
  passes_same = record { enters = enters; leaves = leaves; queues = queues }

pub passes_agree : PassesAgree
passes_agree p w given plain ingress egress computes = passes_same p given (apart p w) ingress egress computes (λ held l. run_listed p w plain held l)
