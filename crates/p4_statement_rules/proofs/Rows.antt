-- Worked rows: a statement, and the first rule that it breaks. Places are the numbers of its tokens.
use Rattle.std.proofs.Common.{◌≡◌, ℕ, List, [], ◌∷◌, true, Option, Some, None, refl, codes}
use Rattle.p4_tree.specs.Tree.{Expr, num, flag, path, applied, error_name, negation, binary, slice, cast, one, many, Stmt, stmts_from, block, var, assign, choice, return_, exit_, call, without, otherwise}
use Rattle.p4_tree.specs.declared.statement.PTy.TheVariants.{Bit, Bool as Bool_, Named}
use Rattle.p4_tree.specs.declared.statement.Op.TheVariants.{Add, Less, Equal, Concat, Shl, Both}
use Rattle.p4_scopes.specs.Scopes.{Scope, fields, value, register, action, table, declare, core}
use Rattle.p4_scopes.specs.declared.thing.Thing.TheVariants.{Header, Struct}
use Rattle.p4_scopes.specs.declared.thing.Access.TheVariants.{Writable, Constant}
use Rattle.p4_statement_rules.specs.Ranks.{first_broken}
use Rattle.p4_statement_rules.specs.Statements.{stmt_tests}
use Rattle.p4_statement_rules.specs.declared.rule.ProgramRule.{ProgramRule}
use Rattle.p4_statement_rules.specs.declared.rule.ProgramRule.TheVariants.{NameTwice, NoSuchName, WidthDiffers, KindDiffers, NotWritable, WrongPlace, BadSize}
use Rattle.p4_statement_rules.specs.declared.rule.Part.{Part}
use Rattle.p4_statement_rules.specs.declared.rule.Part.TheVariants as part

-- header e_t { bit<8> x; bit<16> y; }  struct headers { e_t e; }  struct metadata { bit<8> m; bool g; }
abbrev types : Scope
types =
    declare
    (declare
    (declare core (codes "e_t") (fields (Header 24) ((Bit 8, codes "x") ∷ (Bit 16, codes "y") ∷ [])))
    (codes "headers") (fields Struct ((Named (codes "e_t"), codes "e") ∷ [])))
    (codes "metadata") (fields Struct ((Bit 8, codes "m") ∷ (Bool_, codes "g") ∷ []))

-- const bit<8> C = ..; register<bit<8>>(..) r; inout headers hdr, inout metadata meta, inout standard_metadata_t s;
-- action go(bit<9> port) { .. } table t { .. }
abbrev sight : Scope
sight =
    declare
    (declare
    (declare
    (declare
    (declare
    (declare
    (declare types (codes "C") (value Constant (Bit 8)))
    (codes "r") (register (Bit 8)))
    (codes "hdr") (value Writable (Named (codes "headers"))))
    (codes "meta") (value Writable (Named (codes "metadata"))))
    (codes "s") (value Writable (Named (codes "standard_metadata_t"))))
    (codes "go") (action ((Bit 9, codes "port") ∷ []) 0))
    (codes "t") (table 0)

abbrev x : ℕ → Expr
x p = path p (codes "hdr" ∷ codes "e" ∷ codes "x" ∷ [])

abbrev y : ℕ → Expr
y p = path p (codes "hdr" ∷ codes "e" ∷ codes "y" ∷ [])

abbrev meta_m : List (List ℕ)
meta_m = codes "meta" ∷ codes "m" ∷ []

abbrev of_standard : List ℕ → List (List ℕ)
of_standard f = codes "s" ∷ f ∷ []

-- a number without a width
abbrev bare : ℕ → ℕ → Expr
bare p v = num p (record { width = 0; value = v })

abbrev wide : ℕ → ℕ → ℕ → Expr
wide p w v = num p (record { width = w; value = v })

abbrev fault : Part → Stmt → Option (ℕ × ProgramRule)
fault h s = first_broken (stmt_tests h sight s)

-- meta.m = hdr.e.x + 1;
sum_fits : fault part.Apply (assign 0 meta_m (binary 4 Add (x 4) (bare 10 1))) ≡ None
unfolding declare core
sum_fits = refl

-- meta.m = hdr.e.y;
wider_value : fault part.Apply (assign 0 meta_m (y 4)) ≡ Some (4, WidthDiffers)
unfolding declare core
wider_value = refl

-- meta.m = hdr.e.x + hdr.e.y;
wider_operand : fault part.Apply (assign 0 meta_m (binary 4 Add (x 4) (y 10))) ≡ Some (10, WidthDiffers)
unfolding declare core
wider_operand = refl

-- meta.m = true;
truth_for_number : fault part.Apply (assign 0 meta_m (flag 4 true)) ≡ Some (4, KindDiffers)
unfolding declare core
truth_for_number = refl

-- if (1 == 1) { }
two_bare_numbers : fault part.Apply (choice 0 (binary 2 Equal (bare 2 1) (bare 4 1)) (block 6 (stmts_from [])) without) ≡ Some (2, KindDiffers)
unfolding declare core
two_bare_numbers = refl

-- if (meta.g < true) { }
ordered_truths : fault part.Apply (choice 0 (binary 2 Less (path 2 (codes "meta" ∷ codes "g" ∷ [])) (flag 6 true)) (block 8 (stmts_from [])) without) ≡ Some (2, KindDiffers)
unfolding declare core
ordered_truths = refl

-- meta.m = hdr.e.x << 300;
bare_shift : fault part.Apply (assign 0 meta_m (binary 4 Shl (x 4) (bare 10 300))) ≡ None
unfolding declare core
bare_shift = refl

-- hdr.e.y = hdr.e.x ++ 8w1;
joined : fault part.Apply (assign 0 (codes "hdr" ∷ codes "e" ∷ codes "y" ∷ []) (binary 6 Concat (x 6) (wide 12 8 1))) ≡ None
unfolding declare core
joined = refl

-- meta.m = hdr.e.y[0:7];
slice_upside_down : fault part.Apply (assign 0 meta_m (slice 4 (y 4) 0 7)) ≡ Some (4, BadSize)
unfolding declare core
slice_upside_down = refl

-- meta.m = hdr.e.x[15:8];
slice_past_the_end : fault part.Apply (assign 0 meta_m (slice 4 (x 4) 15 8)) ≡ Some (4, BadSize)
unfolding declare core
slice_past_the_end = refl

-- meta.g = (bool) 8w1;
truth_from_eight_bits : fault part.Apply (assign 0 (codes "meta" ∷ codes "g" ∷ []) (cast 4 Bool_ (wide 7 8 1))) ≡ Some (4, KindDiffers)
unfolding declare core
truth_from_eight_bits = refl

-- zz = 1;
missing_target : fault part.Apply (assign 0 (codes "zz" ∷ []) (bare 2 1)) ≡ Some (0, NoSuchName)
unfolding declare core
missing_target = refl

-- meta.m = s.instance_type;
missing_standard : fault part.Apply (assign 0 meta_m (path 4 (of_standard (codes "instance_type")))) ≡ Some (4, NoSuchName)
unfolding declare core
missing_standard = refl

-- if (s.parser_error == error.Other) { }
missing_error : fault part.Apply (choice 0 (binary 2 Equal (path 2 (of_standard (codes "parser_error"))) (error_name 6 (codes "Other"))) (block 10 (stmts_from [])) without) ≡ Some (6, NoSuchName)
unfolding declare core
missing_error = refl

-- if (s.parser_error == error.NoMatch) { }
error_test : fault part.Apply (choice 0 (binary 2 Equal (path 2 (of_standard (codes "parser_error"))) (error_name 6 (codes "NoMatch"))) (block 10 (stmts_from [])) without) ≡ None
unfolding declare core
error_test = refl

-- if (s.parser_error == s.parser_error) { }
two_held_errors : fault part.Apply (choice 0 (binary 2 Equal (path 2 (of_standard (codes "parser_error"))) (path 6 (of_standard (codes "parser_error")))) (block 10 (stmts_from [])) without) ≡ Some (2, KindDiffers)
unfolding declare core
two_held_errors = refl

-- s.egress_port = 1;
fixed_standard : fault part.Apply (assign 0 (of_standard (codes "egress_port")) (bare 4 1)) ≡ Some (0, NotWritable)
unfolding declare core
fixed_standard = refl

-- s.egress_spec = 1;
written_standard : fault part.Apply (assign 0 (of_standard (codes "egress_spec")) (bare 4 1)) ≡ None
unfolding declare core
written_standard = refl

-- C = 1;
written_constant : fault part.Apply (assign 0 (codes "C" ∷ []) (bare 2 1)) ≡ Some (0, NotWritable)
unfolding declare core
written_constant = refl

-- bit<8> v = v;
own_start : fault part.Apply (var 0 (Bit 8) (codes "v") (Some (path 6 (codes "v" ∷ [])))) ≡ Some (6, NoSuchName)
unfolding declare core
own_start = refl

-- bit<8> hdr;
hidden_name : fault part.Apply (var 0 (Bit 8) (codes "hdr") None) ≡ Some (0, NameTwice)
unfolding declare core
hidden_name = refl

-- bit<129> v;
wide_variable : fault part.Apply (var 0 (Bit 129) (codes "v") None) ≡ Some (0, BadSize)
unfolding declare core
wide_variable = refl

-- hdr.e.setValid(1);
argument_too_many : fault part.Apply (call 0 (codes "hdr" ∷ codes "e" ∷ codes "setValid" ∷ []) (one 6 (bare 6 1) ∷ [])) ≡ Some (0, KindDiffers)
unfolding declare core
argument_too_many = refl

-- mark_to_drop(s); and mark_to_drop(hdr);
dropped : fault part.Apply (call 0 (codes "mark_to_drop" ∷ []) (one 2 (path 2 (codes "s" ∷ [])) ∷ [])) ≡ None
unfolding declare core
dropped = refl

dropped_headers : fault part.Apply (call 0 (codes "mark_to_drop" ∷ []) (one 2 (path 2 (codes "hdr" ∷ [])) ∷ [])) ≡ Some (2, KindDiffers)
unfolding declare core
dropped_headers = refl

-- digest(1, { hdr.e.x, 5 });
bare_digest : fault part.Apply (call 0 (codes "digest" ∷ []) (one 2 (bare 2 1) ∷ many 4 (x 5 ∷ bare 11 5 ∷ []) ∷ [])) ≡ Some (11, KindDiffers)
unfolding declare core
bare_digest = refl

-- digest(4294967296, { hdr.e.x });
wide_receiver : fault part.Apply (call 0 (codes "digest" ∷ []) (one 2 (bare 2 4294967296) ∷ many 4 (x 5 ∷ []) ∷ [])) ≡ Some (2, BadSize)
unfolding declare core
wide_receiver = refl

-- go({ 1 });
list_for_action : fault part.Apply (call 0 (codes "go" ∷ []) (many 2 (bare 3 1 ∷ []) ∷ [])) ≡ Some (2, KindDiffers)
unfolding declare core
list_for_action = refl

-- go(1); in an action
action_in_action : fault part.Action (call 0 (codes "go" ∷ []) (one 2 (bare 2 1) ∷ [])) ≡ Some (0, WrongPlace)
unfolding declare core
action_in_action = refl

-- if (t.apply().hit && true) { }
hit_in_a_value : fault part.Apply (choice 0 (binary 2 Both (applied 2 (codes "t") true) (flag 10 true)) (block 12 (stmts_from [])) without) ≡ Some (2, WrongPlace)
unfolding declare core
hit_in_a_value = refl

-- if (!t.apply().hit) { t.apply(); } else return;
hit_as_a_test : fault part.Apply (choice 0 (negation 2 (applied 3 (codes "t") true)) (block 11 (stmts_from (call 12 (codes "t" ∷ codes "apply" ∷ []) [] ∷ []))) (otherwise (return_ 19))) ≡ None
unfolding declare core
hit_as_a_test = refl

-- r.read(hdr.e.y, 1);  r.read(1, meta.m);  r.read(hdr.e.x, 1);  r.write(hdr.e.y, 1);
wide_target : fault part.Apply (call 0 (codes "r" ∷ codes "read" ∷ []) (one 4 (y 4) ∷ one 10 (bare 10 1) ∷ [])) ≡ Some (4, WidthDiffers)
unfolding declare core
wide_target = refl

number_as_target : fault part.Apply (call 0 (codes "r" ∷ codes "read" ∷ []) (one 4 (bare 4 1) ∷ one 6 (path 6 meta_m) ∷ [])) ≡ Some (4, KindDiffers)
unfolding declare core
number_as_target = refl

read_cell : fault part.Apply (call 0 (codes "r" ∷ codes "read" ∷ []) (one 4 (x 4) ∷ one 10 (bare 10 1) ∷ [])) ≡ None
unfolding declare core
read_cell = refl

written_cell : fault part.Action (call 0 (codes "r" ∷ codes "write" ∷ []) (one 4 (y 4) ∷ one 10 (bare 10 1) ∷ [])) ≡ None
unfolding declare core
written_cell = refl

-- verify_checksum(true, { hdr.e.y }, hdr.e.y, HashAlgorithm.csum16);
verified : fault part.Verify (call 0 (codes "verify_checksum" ∷ []) (one 2 (flag 2 true) ∷ many 4 (y 5 ∷ []) ∷ one 12 (y 12) ∷ one 18 (path 18 (codes "HashAlgorithm" ∷ codes "csum16" ∷ [])) ∷ [])) ≡ None
unfolding declare core
verified = refl

-- verify_checksum(true, { hdr.e.x }, hdr.e.y, HashAlgorithm.csum16);
eight_bits_summed : fault part.Verify (call 0 (codes "verify_checksum" ∷ []) (one 2 (flag 2 true) ∷ many 4 (x 5 ∷ []) ∷ one 12 (y 12) ∷ one 18 (path 18 (codes "HashAlgorithm" ∷ codes "csum16" ∷ [])) ∷ [])) ≡ Some (4, BadSize)
unfolding declare core
eight_bits_summed = refl

-- hdr.e.y = 1; where checksums are computed, and exit; where they are verified
assigned_at_checksums : fault part.Compute (assign 0 (codes "hdr" ∷ codes "e" ∷ codes "y" ∷ []) (bare 6 1)) ≡ Some (0, WrongPlace)
unfolding declare core
assigned_at_checksums = refl

exit_at_checksums : fault part.Verify (exit_ 0) ≡ Some (0, WrongPlace)
unfolding declare core
exit_at_checksums = refl
