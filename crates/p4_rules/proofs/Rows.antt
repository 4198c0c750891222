-- Worked rows: a program, and the first rule that it breaks. Places are numbers that rise through each text.
use Rattle.std.proofs.Common.{◌≡◌, ℕ, zero, suc, ◌+◌, List, [], ◌∷◌, ◌++◌, true, false, Option, Some, None, refl, codes}
use Rattle.p4_tree.specs.Tree.{Expr, num, path, applied, one, many, Stmt, stmts_from, block, assign, choice, call, otherwise, Keyset, any, only, masked, Transition, nowhere, to, select, ParserState, Local, local_action, local_table, local_register, Top, constant, typedef, header_type, struct_type, register, parser, control, Program}
use Rattle.p4_tree.specs.declared.statement.PTy.{PTy}
use Rattle.p4_tree.specs.declared.statement.PTy.TheVariants.{Bit, Bool as Bool_, Named}
use Rattle.p4_tree.specs.declared.program.Way.{Way}
use Rattle.p4_tree.specs.declared.program.Way.TheVariants as way
use Rattle.p4_tree.specs.declared.program.Param.{Param}
use Rattle.p4_scopes.specs.Scopes.{declare, core}
use Rattle.p4_statement_rules.specs.declared.rule.ProgramRule.{ProgramRule}
use Rattle.p4_statement_rules.specs.declared.rule.ProgramRule.TheVariants.{NameTwice, NoSuchName, WidthDiffers, KindDiffers, WrongPlace, ParserCycle, BadSize, BadMain, KeyKinds, Limit}
use Rattle.p4_rules.specs.Limits.{header_bytes, most_of_program}
use Rattle.p4_rules.specs.ProgramRules.{program_scope, first_fault}

-- ---- programs

abbrev bare : ℕ → ℕ → Expr
bare p v = num p (record { width = 0; value = v })

abbrev param : ℕ → Way → List ℕ → List ℕ → Param
param p w t x = record { at = p; way = w; ty = Named t; name = x }

abbrev headers_param : ℕ → Param
headers_param p = param p way.Both (codes "headers") (codes "hdr")

abbrev metadata_param : ℕ → Param
metadata_param p = param p way.Both (codes "metadata") (codes "meta")

abbrev standard_param : ℕ → Param
standard_param p = param p way.Both (codes "standard_metadata_t") (codes "standard_metadata")

-- header e_t { bit<8> x; bit<16> y; }  struct metadata { bit<8> m; bool g; }  struct headers { e_t e; e_t f; }
abbrev types : List Top
types =
    header_type 1 (codes "e_t") ((Bit 8, codes "x") ∷ (Bit 16, codes "y") ∷ [])
    ∷ struct_type 2 (codes "metadata") ((Bit 8, codes "m") ∷ (Bool_, codes "g") ∷ [])
    ∷ struct_type 3 (codes "headers") ((Named (codes "e_t"), codes "e") ∷ (Named (codes "e_t"), codes "f") ∷ [])
    ∷ []

abbrev state : ℕ → List ℕ → List Stmt → Transition → ParserState
state p x body next = record { at = p; name = x; body = body; next = next }

abbrev extract : ℕ → List ℕ → Stmt
extract p h = call p (codes "packet" ∷ codes "extract" ∷ []) (one (p + 4) (path (p + 4) (codes "hdr" ∷ h ∷ [])) ∷ [])

abbrev emit : ℕ → List ℕ → Stmt
emit p h = call p (codes "packet" ∷ codes "emit" ∷ []) (one (p + 4) (path (p + 4) (codes "hdr" ∷ h ∷ [])) ∷ [])

abbrev parser_of : List ParserState → Top
parser_of sts = parser 100 (record { at = 100; name = codes "P"; params = param 103 way.Plain (codes "packet_in") (codes "packet") ∷ param 106 way.Out (codes "headers") (codes "hdr") ∷ metadata_param 110 ∷ standard_param 114 ∷ []; states = sts })

abbrev checksums : ℕ → List ℕ → Top
checksums p x = control p (record { at = p; name = x; params = headers_param (p + 3) ∷ metadata_param (p + 7) ∷ []; locals = []; apply = stmts_from [] })

abbrev applying : ℕ → List ℕ → List Local → List Stmt → Top
applying p x ls ss = control p (record { at = p; name = x; params = headers_param (p + 3) ∷ metadata_param (p + 7) ∷ standard_param (p + 11) ∷ []; locals = ls; apply = stmts_from ss })

abbrev deparser : List Stmt → Top
deparser ss = control 900 (record { at = 900; name = codes "D"; params = param 903 way.Plain (codes "packet_out") (codes "packet") ∷ param 906 way.Into (codes "headers") (codes "hdr") ∷ []; locals = []; apply = stmts_from ss })

abbrev names : List (List ℕ)
names = codes "P" ∷ codes "V" ∷ codes "I" ∷ codes "E" ∷ codes "K" ∷ codes "D" ∷ []

abbrev starts : List ParserState
starts = state 118 (codes "start") (extract 121 (codes "e") ∷ []) (to 128 (codes "accept")) ∷ []

-- a program with these declarations in front, states, declarations and statements of ingress, and emits
abbrev program : List Top → List ParserState → List Local → List Stmt → List Stmt → Program
program front sts ls ss es =
    record {
      at = 0;
      tops = types ++ (front ++ parser_of sts ∷ checksums 200 (codes "V") ∷ applying 300 (codes "I") ls ss ∷ applying 700 (codes "E") [] [] ∷ checksums 800 (codes "K") ∷ deparser es ∷ []);
      main = names;
    }

abbrev plain : Program
plain = program [] starts [] [] (emit 910 (codes "e") ∷ emit 920 (codes "f") ∷ [])

nothing_broken : first_fault plain ≡ None
unfolding declare core
nothing_broken = refl

with_front : List Top → Option (ℕ × ProgramRule)
with_front front = first_fault (program front starts [] [] [])

with_states : List ParserState → Option (ℕ × ProgramRule)
with_states sts = first_fault (program [] sts [] [] [])

with_locals : List Local → Option (ℕ × ProgramRule)
with_locals ls = first_fault (program [] starts ls [] [])

-- ---- NameTwice

-- packet.emit(hdr.e); packet.emit(hdr.e);
emitted_twice : first_fault (program [] starts [] [] (emit 910 (codes "e") ∷ emit 920 (codes "e") ∷ [])) ≡ Some (920, NameTwice)
unfolding declare core
emitted_twice = refl

-- header a { bit<8> x; bit<8> x; }
field_twice : with_front (header_type 10 (codes "a") ((Bit 8, codes "x") ∷ (Bit 8, codes "x") ∷ []) ∷ []) ≡ Some (10, NameTwice)
unfolding declare core with_front
field_twice = refl

-- state accept { }
state_of_the_language : with_states (state 118 (codes "start") [] (to 121 (codes "accept")) ∷ state 125 (codes "accept") [] (nowhere 128) ∷ []) ≡ Some (125, NameTwice)
unfolding declare core with_states
state_of_the_language = refl

-- typedef bit<8> NoAction;
core_name_again : with_front (typedef 10 (Bit 8) (codes "NoAction") ∷ []) ≡ Some (10, NameTwice)
unfolding declare core with_front
core_name_again = refl

-- header e_t { bit<128> x; }, once more; the first has three bytes
header_again : List Top
header_again = header_type 10 (codes "e_t") ((Bit 128, codes "x") ∷ []) ∷ []

type_again : with_front header_again ≡ Some (10, NameTwice)
unfolding declare core with_front header_again
type_again = refl

first_counts : header_bytes (program_scope (program header_again starts [] [] [])) (program header_again starts [] [] []) ≡ 6
unfolding declare core header_again
first_counts = refl

-- ---- NoSuchName

-- const bit<8> A = B;
later_constant : with_front (constant 10 (Bit 8) (codes "A") (path 16 (codes "B" ∷ [])) ∷ constant 18 (Bit 8) (codes "B") (bare 24 1) ∷ []) ≡ Some (16, NoSuchName)
unfolding declare core with_front
later_constant = refl

-- a parser without start, and a transition to no state
no_start : with_states (state 118 (codes "begin") [] (to 121 (codes "accept")) ∷ []) ≡ Some (100, NoSuchName)
unfolding declare core with_states
no_start = refl

no_such_state : with_states (state 118 (codes "start") [] (to 121 (codes "nowhere")) ∷ []) ≡ Some (121, NoSuchName)
unfolding declare core with_states
no_such_state = refl

-- ---- WidthDiffers, KindDiffers: transition select(meta.m) { 16w3: accept; }, select(meta.m, meta.g) { 1: accept; },
-- select(meta.m) { hdr: accept; }, select(5) { _: accept; }, select(meta.m) { 3 &&& 1: accept; default: accept; }

abbrev meta_m : ℕ → Expr
meta_m p = path p (codes "meta" ∷ codes "m" ∷ [])

abbrev meta_g : ℕ → Expr
meta_g p = path p (codes "meta" ∷ codes "g" ∷ [])

selecting : List Expr → List (List Keyset) → Option (ℕ × ProgramRule)
selecting es [] = with_states (state 118 (codes "start") [] (select 121 es []) ∷ [])
selecting es (ks ∷ kss) = with_states (state 118 (codes "start") [] (select 121 es (record { keys = ks; next = codes "accept" } ∷ [])) ∷ [])

wide_key : selecting (meta_m 124 ∷ []) ((only 129 (num 129 (record { width = 16; value = 3 })) ∷ []) ∷ []) ≡ Some (129, WidthDiffers)
unfolding declare core with_states selecting
wide_key = refl

key_too_few : selecting (meta_m 124 ∷ meta_g 128 ∷ []) ((only 133 (bare 133 1) ∷ []) ∷ []) ≡ Some (121, KindDiffers)
unfolding declare core with_states selecting
key_too_few = refl

headers_as_key : selecting (meta_m 124 ∷ []) ((only 129 (path 129 (codes "hdr" ∷ [])) ∷ []) ∷ []) ≡ Some (129, KindDiffers)
unfolding declare core with_states selecting
headers_as_key = refl

bare_selected : selecting (bare 124 5 ∷ []) ((any 127 ∷ []) ∷ []) ≡ Some (124, KindDiffers)
unfolding declare core with_states selecting
bare_selected = refl

masked_key : selecting (meta_m 124 ∷ []) ((masked 129 (bare 129 3) (bare 131 1) ∷ []) ∷ []) ≡ None
unfolding declare core with_states selecting
masked_key = refl

one_default : selecting (meta_m 124 ∷ meta_g 128 ∷ []) ((any 133 ∷ []) ∷ []) ≡ None
unfolding declare core with_states selecting
one_default = refl

-- ---- ParserCycle

-- start leads to a and b, and both to c
reached_twice : with_states
    (state 118 (codes "start") [] (select 121 (meta_m 124 ∷ []) (record { keys = only 129 (bare 129 1) ∷ []; next = codes "a" } ∷ record { keys = any 133 ∷ []; next = codes "b" } ∷ []))
    ∷ state 140 (codes "a") [] (to 143 (codes "c"))
    ∷ state 150 (codes "b") [] (to 153 (codes "c"))
    ∷ state 160 (codes "c") [] (to 163 (codes "accept")) ∷ []) ≡ None
unfolding declare core with_states
reached_twice = refl

-- start leads to a, a to b, b to c and c to a
cycle_of_three : with_states
    (state 118 (codes "start") [] (to 121 (codes "a"))
    ∷ state 140 (codes "a") [] (to 143 (codes "b"))
    ∷ state 150 (codes "b") [] (to 153 (codes "c"))
    ∷ state 160 (codes "c") [] (to 163 (codes "a")) ∷ []) ≡ Some (140, ParserCycle)
unfolding declare core with_states
cycle_of_three = refl

-- ---- WrongPlace: mark_to_drop in a state, and a default action outside the list

dropped_in_a_state : with_states (state 118 (codes "start") (call 121 (codes "mark_to_drop" ∷ []) (one 123 (path 123 (codes "standard_metadata" ∷ [])) ∷ []) ∷ []) (to 126 (codes "accept")) ∷ []) ≡ Some (121, WrongPlace)
unfolding declare core with_states
dropped_in_a_state = refl

-- action go(bit<9> port) { standard_metadata.egress_spec = port; }
abbrev go : Local
go = local_action 320 (record { at = 320; name = codes "go"; params = (Bit 9, codes "port") ∷ []; body = stmts_from (assign 328 (codes "standard_metadata" ∷ codes "egress_spec" ∷ []) (path 332 (codes "port" ∷ [])) ∷ []) })

abbrev table_of : List (Expr × List ℕ) → List (List ℕ) → Option (List ℕ × List Expr) → Local
table_of ks as' d = local_table 340 (record { at = 340; name = codes "t"; keys = ks; actions = as'; default = d; fixed = false; size = None })

default_outside : with_locals (go ∷ table_of [] (codes "go" ∷ []) (Some (codes "NoAction", [])) ∷ []) ≡ Some (340, WrongPlace)
unfolding declare core with_locals
default_outside = refl

no_such_action : with_locals (go ∷ table_of [] (codes "zz" ∷ []) None ∷ []) ≡ Some (340, NoSuchName)
unfolding declare core with_locals
no_such_action = refl

default_fits : with_locals (go ∷ table_of ((meta_m 345, codes "exact") ∷ []) (codes "NoAction" ∷ codes "go" ∷ []) (Some (codes "go", bare 360 1 ∷ [])) ∷ []) ≡ None
unfolding declare core with_locals
default_fits = refl

-- ---- KeyKinds

two_prefixes : with_locals (table_of ((meta_m 345, codes "lpm") ∷ (meta_g 350, codes "lpm") ∷ []) [] None ∷ []) ≡ Some (340, KeyKinds)
unfolding declare core with_locals
two_prefixes = refl

prefix_beside_mask : with_locals (table_of ((meta_m 345, codes "ternary") ∷ (meta_g 350, codes "lpm") ∷ []) [] None ∷ []) ≡ Some (340, KeyKinds)
unfolding declare core with_locals
prefix_beside_mask = refl

-- ---- BadSize: register<bit<8>>(4194305) r; and header a { bit<7> x; bit<16> y; }

register_too_long : with_locals (local_register 320 (record { at = 320; ty = Bit 8; count = 4194305; name = codes "r" }) ∷ []) ≡ Some (320, BadSize)
unfolding declare core with_locals
register_too_long = refl

no_cells : with_locals (local_register 320 (record { at = 320; ty = Bit 8; count = 0; name = codes "r" }) ∷ []) ≡ Some (320, BadSize)
unfolding declare core with_locals
no_cells = refl

torn_header : with_front (header_type 10 (codes "a") ((Bit 7, codes "x") ∷ (Bit 16, codes "y") ∷ []) ∷ []) ≡ Some (10, BadSize)
unfolding declare core with_front
torn_header = refl

-- ---- BadMain

four_controls : first_fault (record plain { main = codes "P" ∷ codes "V" ∷ codes "I" ∷ codes "E" ∷ codes "K" ∷ [] }) ≡ Some (0, BadMain)
unfolding declare core
four_controls = refl

control_left_out : with_front (checksums 10 (codes "W") ∷ []) ≡ Some (0, BadMain)
unfolding declare core with_front
control_left_out = refl

-- struct headers { e_t e; bit<8> z; }: the first parameter that wants headers alone is the parser's
headers_mixed : first_fault (record plain { tops = header_type 1 (codes "e_t") ((Bit 8, codes "x") ∷ []) ∷ struct_type 2 (codes "metadata") [] ∷ struct_type 3 (codes "headers") ((Named (codes "e_t"), codes "e") ∷ (Bit 8, codes "z") ∷ []) ∷ parser_of starts ∷ checksums 200 (codes "V") ∷ applying 300 (codes "I") [] [] ∷ applying 700 (codes "E") [] [] ∷ checksums 800 (codes "K") ∷ deparser [] ∷ [] }) ≡ Some (106, BadMain)
unfolding declare core
headers_mixed = refl

-- K and E in each other's place
other_parameters : first_fault (record plain { main = codes "P" ∷ codes "V" ∷ codes "I" ∷ codes "K" ∷ codes "E" ∷ codes "D" ∷ [] }) ≡ Some (0, BadMain)
unfolding declare core
other_parameters = refl

-- ---- Limit

-- register<bit<8>>(4194304) r; and register<bit<8>>(16385) q; or one cell more
two_registers : ℕ → List Top
two_registers n = register 10 (record { at = 10; ty = Bit 8; count = 4194304; name = codes "r" }) ∷ register 18 (record { at = 18; ty = Bit 8; count = n; name = codes "q" }) ∷ []

cells_within : with_front (two_registers 16385) ≡ None
unfolding declare core with_front two_registers
cells_within = refl

cells_past : with_front (two_registers 16386) ≡ Some (0, Limit)
unfolding declare core with_front two_registers
cells_past = refl

bytes_of_two : header_bytes (program_scope plain) plain ≡ 6
unfolding declare core
bytes_of_two = refl

repeated : ℕ → Stmt → List Stmt
repeated zero s = []
repeated (suc n) s = s ∷ repeated n s

abbrev told : ℕ → Stmt
told p = call p (codes "digest" ∷ []) (one (p + 2) (bare (p + 2) 1) ∷ many (p + 4) (meta_m (p + 5) ∷ []) ∷ [])

-- an action with two digests, in a table beside one without; in ingress an `if` on the table with three digests in one
-- branch and one in the other, and behind it an application
abbrev tells : Local
tells = local_action 320 (record { at = 320; name = codes "tell"; params = []; body = stmts_from (told 325 ∷ told 335 ∷ []) })

two_tables : first_fault (program [] starts (tells ∷ table_of [] (codes "NoAction" ∷ codes "tell" ∷ []) None ∷ [])
    (choice 400 (applied 402 (codes "t") true) (block 410 (stmts_from (repeated 3 (told 411)))) (otherwise (told 450)) ∷ call 460 (codes "t" ∷ codes "apply" ∷ []) [] ∷ []) []) ≡ None
unfolding declare core repeated
two_tables = refl

digests_of_tables : most_of_program (program [] starts (tells ∷ table_of [] (codes "NoAction" ∷ codes "tell" ∷ []) None ∷ [])
    (choice 400 (applied 402 (codes "t") true) (block 410 (stmts_from (repeated 3 (told 411)))) (otherwise (told 450)) ∷ call 460 (codes "t" ∷ codes "apply" ∷ []) [] ∷ []) []) ≡ 7
unfolding declare core repeated
digests_of_tables = refl

-- an action with 128 digests that ingress calls 160 times, and once more
abbrev tells_much : Local
tells_much = local_action 320 (record { at = 320; name = codes "tell"; params = []; body = stmts_from (repeated 128 (told 325)) })

digests_within : first_fault (program [] starts (tells_much ∷ []) (repeated 160 (call 400 (codes "tell" ∷ []) [])) []) ≡ None
unfolding declare core repeated
digests_within = refl

digests_past : first_fault (program [] starts (tells_much ∷ []) (repeated 161 (call 400 (codes "tell" ∷ []) [])) []) ≡ Some (0, Limit)
unfolding declare core repeated
digests_past = refl

-- a header of 256 bytes, nine times in the struct of headers, and another of one byte
abbrev long_header : Top
long_header = header_type 1 (codes "h_t") ((Bit 128, codes "a") ∷ (Bit 128, codes "b") ∷ (Bit 128, codes "c") ∷ (Bit 128, codes "d") ∷ (Bit 128, codes "e") ∷ (Bit 128, codes "f") ∷ (Bit 128, codes "g") ∷ (Bit 128, codes "h") ∷ (Bit 128, codes "i") ∷ (Bit 128, codes "j") ∷ (Bit 128, codes "k") ∷ (Bit 128, codes "l") ∷ (Bit 128, codes "m") ∷ (Bit 128, codes "n") ∷ (Bit 128, codes "o") ∷ (Bit 128, codes "p") ∷ [])

abbrev long_headers : List (PTy × List ℕ) → Program
long_headers fs =
    record plain {
      tops =
          long_header
          ∷ header_type 2 (codes "b_t") ((Bit 8, codes "x") ∷ [])
          ∷ struct_type 3 (codes "metadata") []
          ∷ struct_type 4 (codes "headers") ((Named (codes "h_t"), codes "e") ∷ (Named (codes "h_t"), codes "f") ∷ (Named (codes "h_t"), codes "g") ∷ (Named (codes "h_t"), codes "h") ∷ (Named (codes "h_t"), codes "i") ∷ (Named (codes "h_t"), codes "j") ∷ (Named (codes "h_t"), codes "k") ∷ (Named (codes "h_t"), codes "l") ∷ (Named (codes "h_t"), codes "m") ∷ fs)
          ∷ parser_of starts ∷ checksums 200 (codes "V") ∷ applying 300 (codes "I") [] [] ∷ applying 700 (codes "E") [] [] ∷ checksums 800 (codes "K") ∷ deparser [] ∷ [];
    }

bytes_within : first_fault (long_headers []) ≡ None
unfolding declare core
bytes_within = refl

bytes_past : first_fault (long_headers ((Named (codes "b_t"), codes "n") ∷ [])) ≡ Some (0, Limit)
unfolding declare core
bytes_past = refl
