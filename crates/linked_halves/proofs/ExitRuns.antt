-- What the statements around the exit part do: the flags are set, and at the last hop the header goes, and a rejected
-- packet is counted and dropped.
use Rattle.std.proofs.Common.{◌≡◌, ℕ, ◌+◌, ◌%◌, ◌^◌, ◌<◌, List, [], ◌∷◌, Bool, true, false, not, Some, None, refl, sym, ap, ap₂, ◌∙◌}
use Rattle.std.specs.Prelude.{if◌then◌else◌, nat_eq}
use Rattle.std.specs.List.{AllByRecursion}
use Rattle.std.proofs.Math.Nat.{mod-eq_of_lt}
use Rattle.bit_values.specs.Bits.{Word, word, add, cast}
use Rattle.bit_values.specs.Widths.{bit, holds, either_width, sound_width, cast_word}
use Rattle.p4_tree.specs.Tree.{Expr, path, binary, Stmt, assign, done, next, and_then}
use Rattle.p4_tree.specs.declared.statement.Op.TheVariants as p4
use Rattle.p4_meaning.specs.Standard.{standard_root, ingress_port, egress_spec, egress_port}
use Rattle.p4_meaning.specs.Store.{shown, set_value, set_valid, made}
use Rattle.p4_meaning.specs.Value.{value_of}
use Rattle.p4_meaning.specs.Statements.{Calls, Go, Run, Ended, after, in_store, cell_at, cell_set, put_cells, meaning_of_stmt, meaning_of}
use Rattle.p4_meaning.specs.Pass.{is_dropped}
use Rattle.p4_meaning.proofs.Sequences.{then_runs}
use Rattle.own_code.specs.Relations.{IsPort}
use Rattle.monitor_laws.specs.Names.{tele_header, rejects_register, first_name, last_name, rejected_name}
use Rattle.monitor_laws.specs.Trees.{number, only_if}
use Rattle.monitor_laws.specs.Monitor.{Monitor}
use Rattle.monitor_laws.proofs.Frames.{open_by, written_open, assignment, last_ended}
use Rattle.linked_halves.specs.Statements.{none_of, count_name, read_count, write_count, drop_packet, reject_stmts, end_stmts, last_test, exit_stmts, exit_stmt}
use Rattle.linked_halves.specs.Held.{is_in}
use Rattle.linked_halves.proofs.Ports.{none_of_is}

-- nothing follows the last statement
pub last_run : (calls : Calls) (e : Ended) → (after e.1 e.0 (meaning_of calls done)).0 ≡ e.0
last_run calls e = ap (λ (g : Ended). g.0) (last_ended calls e)

-- a test of one bit, and of the bit turned round
test_of : (b : Bool) (x y : Ended) → (if holds (bit b) then x else y) ≡ (if b then x else y)
test_of true x y = refl
test_of false x y = refl

test_of_not : (b : Bool) (x y : Ended) → (if holds (bit (not b)) then x else y) ≡ (if b then y else x)
test_of_not true x y = refl
test_of_not false x y = refl

-- the run of one of two that go on, and of one that goes on or another
run_of_either : (b : Bool) (x y : Run) → (if b then (let e : Ended = (x, Go) in e) else (let e : Ended = (y, Go) in e)).0 ≡ (if b then x else y)
run_of_either true x y = refl
run_of_either false x y = refl

pub run_unless : (b : Bool) (x : Run) (e : Ended) → (if b then (let g : Ended = (x, Go) in g) else e).0 ≡ (if b then x else e.0)
run_unless true x e = refl
run_unless false x e = refl

-- the count, raised by one
abbrev pub raised : ℕ → Word
raised n = word 32 (((n % 2 ^ 32) % 2 ^ 32 + 1) % 2 ^ 32 % 2 ^ 32)

-- one more rejected packet, which is dropped
abbrev pub counted : Run → ℕ → Run
counted r n =
    let s1 = set_value r.store (count_name ∷ []) (word 32 0) in
    let s2 = set_value s1 (count_name ∷ []) (word 32 (n % 2 ^ 32)) in
    record {
      store = set_value s2 egress_spec (word 9 511);
      cells = put_cells r.cells rejects_register (raised n ∷ []);
      digests = r.digests;
    }

counts : (calls : Calls) (r : Run) (n : ℕ) → r.store.headers [] ≡ None → r.store.headers (standard_root ∷ []) ≡ None → r.cells rejects_register ≡ word 32 n ∷ [] → meaning_of calls reject_stmts r ≡ (counted r n, Go)
counts calls r n plain standard cells =
    let s1 = set_value r.store (count_name ∷ []) (word 32 0) in
    let s2 = set_value s1 (count_name ∷ []) (word 32 (n % 2 ^ 32)) in
    let r2 = in_store r s2 in
    let r3 : Run = record r2 { cells = put_cells r.cells rejects_register (raised n ∷ []) } in
    let more : Expr = binary 0 p4.Add (path 0 (count_name ∷ [])) (number 0 1) in
    let loaded : meaning_of_stmt calls read_count (in_store r s1) ≡ (r2, Go) =
    ap (λ s. (in_store r s, Go)) (written_open (s1.headers []) s1 (count_name ∷ []) _ (open_by (s1.headers []) None plain tt))
    ∙ ap (λ (cs : List Word). (in_store r (set_value s1 (count_name ∷ []) (cast_word 32 (cell_at cs 0))), Go)) cells in
    let sum_of : Word → (place : ℕ) → Word = λ w place. word (sound_width (either_width place 32)) (add (sound_width (either_width place 32)) (cast (sound_width (either_width place 32)) w.value) (cast (sound_width (either_width place 32)) (cast (sound_width (either_width 0 (either_width place 32))) 1))) in
    let sum : value_of more 32 s2 ≡ word 32 (((n % 2 ^ 32) % 2 ^ 32 + 1) % 2 ^ 32) =
    ap (λ o. sum_of (shown o (word 32 (n % 2 ^ 32))) (either_width (shown o (word 32 (n % 2 ^ 32))).width 0)) plain in
    let stored : meaning_of_stmt calls write_count r2 ≡ (r3, Go) =
    ap (λ (cs : List Word). (record r2 { cells = put_cells r.cells rejects_register (cell_set cs 0 (value_of more (cell_at cs 0).width s2)) }, Go)) cells
    ∙ ap (λ (v : Word). (record r2 { cells = put_cells r.cells rejects_register (cell_set (word 32 n ∷ []) 0 v) }, Go)) sum in
    let gone : meaning_of_stmt calls drop_packet r3 ≡ (counted r n, Go) =
    ap (λ s. (in_store r3 s, Go)) (written_open (s2.headers (standard_root ∷ [])) s2 egress_spec (word 9 511) (open_by (s2.headers (standard_root ∷ [])) None standard tt)) in
    ap (λ (e : Ended). after e.1 e.0 (meaning_of calls (next write_count (next drop_packet done)))) loaded
    ∙ ap (λ (e : Ended). after e.1 e.0 (meaning_of calls (next drop_packet done))) stored
    ∙ ap (λ (e : Ended). after e.1 e.0 (meaning_of calls done)) gone

-- the header goes
abbrev pub closed : Run → Run
closed r = in_store r (set_valid r.store tele_header false)

-- the last statement's test
cast_bit : (b : Bool) → cast_word 1 (bit b) ≡ bit b
cast_bit true = refl
cast_bit false = refl

not_not : (b : Bool) → not (not b) ≡ b
not_not true = refl
not_not false = refl

run_of_test : (b : Bool) (e : Ended) (r : Run) → (if holds (bit b) then e else (let g : Ended = (r, Go) in g)).0 ≡ (if b then e.0 else r)
run_of_test true e r = refl
run_of_test false e r = refl

-- a flag takes a truth value
flag_set : (calls : Calls) (b : Run) (x : List ℕ) (e : Expr) (t : Bool) → b.store.headers [] ≡ None → b.store.values (x ∷ []) ≡ word 1 0 → value_of e 1 b.store ≡ bit t → meaning_of_stmt calls (assign 0 (x ∷ []) e) b ≡ (in_store b (set_value b.store (x ∷ []) (bit t)), Go)
flag_set calls b x e t plain old value =
    assignment calls b 0 (x ∷ []) e (word 1 0) (bit t) refl (open_by (b.store.headers []) None plain tt) old value
    ∙ ap (λ w. (in_store b (set_value b.store (x ∷ []) w), Go)) (cast_bit t)

-- the run with its flags
abbrev pub flagged : Bool → Bool → Run → Run
flagged first last b = in_store b (set_value (set_value b.store (first_name ∷ []) (bit first)) (last_name ∷ []) (bit last))

-- behind the exit part: the header goes, and a rejected packet is counted and dropped
pub end_runs : (calls : Calls) (r : Run) (n : ℕ) (rejected : Bool) → r.store.headers [] ≡ None → r.store.headers (standard_root ∷ []) ≡ None → r.store.headers tele_header ≡ Some true → r.store.values (rejected_name ∷ []) ≡ bit rejected → r.cells rejects_register ≡ word 32 n ∷ []
    → (meaning_of calls end_stmts r).0 ≡ (if rejected then counted (closed r) n else closed r)
end_runs calls r n rejected plain standard valid flag cells =
    let c = closed r in
    let test : Stmt = only_if (path 0 (rejected_name ∷ [])) reject_stmts in
    let shut : meaning_of calls end_stmts r ≡ meaning_of calls (next test done) c = ap (λ o. meaning_of calls (next test done) (in_store r (made o false r.store tele_header))) valid in
    let tested : meaning_of_stmt calls test c ≡ (if rejected then (counted c n, Go) else (c, Go)) =
    ap (λ w. if holds w then meaning_of calls reject_stmts c else (c, Go)) (ap₂ shown plain flag)
    ∙ test_of rejected (meaning_of calls reject_stmts c) (c, Go)
    ∙ ap (λ (e : Ended). if rejected then e else (c, Go)) (counts calls c n plain standard cells) in
    ap (λ (e : Ended). e.0) shut ∙ last_run calls (meaning_of_stmt calls test c) ∙ ap (λ (e : Ended). e.0) tested ∙ run_of_either rejected (counted c n) c

module _ {T Z C : Type 0} (m : Monitor T Z C) (sw : ℕ) (links : List ℕ) (low : AllByRecursion (λ n. n < 512) links) (calls : Calls) where
  -- the exit part runs where forwarding does not drop the packet
  pub exit_test : (b : Run) → b.store.headers (standard_root ∷ []) ≡ None → IsPort (b.store.values egress_spec) → meaning_of_stmt calls (exit_stmt m sw links) b ≡ (if is_dropped b.store then (b, Go) else meaning_of calls (exit_stmts m sw links) b)
  exit_test b standard port =
      let w = b.store.values egress_spec in
      let body = meaning_of calls (exit_stmts m sw links) b in
      let pick : Bool → Ended = λ t. if t then body else (b, Go) in
      let differs : Word → ℕ → Bool = λ v n. holds (bit (not (nat_eq (cast (sound_width (either_width n 0)) v.value) (cast (sound_width (either_width n 0)) (cast (sound_width (either_width n 0)) 511))))) in
      ap (λ o. pick (differs (shown o w) (shown o w).width)) standard
      ∙ ap (λ n. pick (differs w n)) port.width
      ∙ ap (λ n. pick (holds (bit (not (nat_eq n 511))))) (mod-eq_of_lt port.low)
      ∙ test_of_not (nat_eq w.value 511) body (b, Go)

  -- the flags are set
  pub flags_run : (b : Run) (i n : ℕ) (first last : Bool) → b.store.headers [] ≡ None → b.store.headers (standard_root ∷ []) ≡ None → b.store.values (first_name ∷ []) ≡ word 1 0 → b.store.values (last_name ∷ []) ≡ word 1 0
      → b.store.values ingress_port ≡ word 9 i → i < 512 → first ≡ not (is_in i links) → b.store.values egress_port ≡ word 9 n → n < 512 → is_in n links ≡ not last
      → meaning_of calls (exit_stmts m sw links) b ≡ meaning_of calls (and_then (m.exit sw) last_test) (flagged first last b)
  flags_run b i n first last plain standard old older came lt is going low_port at =
      let rest = and_then (m.exit sw) last_test in
      let b1 = in_store b (set_value b.store (first_name ∷ []) (bit first)) in
      let one = flag_set calls b first_name (none_of ingress_port links) first plain old (none_of_is ingress_port b.store i (ap₂ shown standard came) lt links low ∙ ap bit (sym is)) in
      let two = flag_set calls b1 last_name (none_of egress_port links) last plain older (none_of_is egress_port b1.store n (ap₂ shown standard going) low_port links low ∙ ap (λ t. bit (not t)) at ∙ ap bit (not_not last)) in
      ap (λ (e : Ended). after e.1 e.0 (meaning_of calls (next (assign 0 (last_name ∷ []) (none_of egress_port links)) rest))) one
      ∙ ap (λ (e : Ended). after e.1 e.0 (meaning_of calls rest)) two

  -- behind the exit part
  pub rest_runs : (b e : Run) (last : Bool) → meaning_of calls (m.exit sw) b ≡ (e, Go) → e.store.headers [] ≡ None → e.store.values (last_name ∷ []) ≡ bit last → (meaning_of calls (and_then (m.exit sw) last_test) b).0 ≡ (if last then (meaning_of calls end_stmts e).0 else e)
  rest_runs b e last ran plain flag =
      ap (λ (e : Ended). e.0) (then_runs calls (m.exit sw) last_test b)
      ∙ ap (λ (e : Ended). (after e.1 e.0 (meaning_of calls last_test)).0) ran
      ∙ last_run calls (meaning_of_stmt calls (only_if (path 0 (last_name ∷ [])) end_stmts) e)
      ∙ ap (λ w. (if holds w then meaning_of calls end_stmts e else (let g : Ended = (e, Go) in g)).0) (ap₂ shown plain flag)
      ∙ run_of_test last (meaning_of calls end_stmts e) e
