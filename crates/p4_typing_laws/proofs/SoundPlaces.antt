-- What is in sight at each place of a program that breaks no rule is sound, and so is what is wanted there.
use Rattle.std.proofs.Common.{◌≡◌, ℕ, ◌≤◌, List, [], ◌∷◌, Bool, true, false, cond, ◌||◌, codes, arith}
use Rattle.lex_text.specs.Names.{same_text, parent, last_name}
use Rattle.rule_tests.specs.Tests.{IsFine}
use Rattle.p4_tree.specs.Tree.{Expr, Stmt, nothing, block, var, assign, choice, return_, exit_, call, Local, local_action, local_table, local_register, local_const, local_var, Control, Top, constant, typedef, header_type, struct_type, register, parser, control}
use Rattle.p4_tree.specs.declared.program.Param.{Param}
use Rattle.p4_scopes.specs.Kinds.{is_open, as_value, index_want}
use Rattle.p4_scopes.specs.Scopes.{Stands, missing, typed, held, cells, act, rows, state, function, algorithm, other, is_missing, value_kind, Scope, value, declare, own}
use Rattle.p4_scopes.specs.Uses.{reads}
use Rattle.p4_scopes.specs.declared.kind.Kind.{Kind}
use Rattle.p4_scopes.specs.declared.kind.Kind.TheVariants.{Number, Truth}
use Rattle.p4_scopes.specs.declared.thing.Thing.{Thing}
use Rattle.p4_scopes.specs.declared.thing.Thing.TheVariants.{Scalar, Header, Struct, Standard, PacketIn, PacketOut}
use Rattle.p4_scopes.specs.declared.thing.Access.TheVariants.{Writable, Constant}
use Rattle.p4_scopes.specs.declared.thing.Function.{Function}
use Rattle.p4_scopes.specs.declared.thing.Function.TheVariants.{MarkToDrop, Digest, VerifyChecksum, UpdateChecksum}
use Rattle.p4_statement_rules.specs.Expressions.{expr_tests}
use Rattle.p4_statement_rules.specs.Forms.{Form, unknown, ill, drops, digests, sums, extracts, emits, applies, reads_cell, writes_cell, makes_valid, acts, function_form, plain_form, thing_form, verb_form, form_of}
use Rattle.p4_statement_rules.specs.Statements.{after, stmt_tests}
use Rattle.p4_statement_rules.specs.declared.rule.Part.{Part}
use Rattle.p4_declaration_rules.specs.Declarations.{is_no_number, is_no_field}
use Rattle.p4_declaration_rules.specs.Parsers.{way_access, with_ways, ways_tests}
use Rattle.p4_declaration_rules.specs.Controls.{local_tests, after_local, locals_tests, after_locals, in_control, control_tests, top_tests, after_top}
use Rattle.p4_typing_laws.specs.Soundness.{kind_width, IsSoundKind, AreSoundKinds, IsSoundStands, IsSound}
use Rattle.p4_typing_laws.proofs.StaticWidths.{ReadsSound, sound_width_of, number_cap, value_cap, pick_cap, own_cap}
use Rattle.p4_typing_laws.proofs.SoundScopes.{value_sound, alias_sound, register_sound, fields_sound, action_sound, table_sound, part_sound, params_kinds}

-- ---- scopes

pub after_sound : (h : Part) (s : Scope) → IsSound s → (c : Stmt) → IsFine (stmt_tests h s c) → IsSound (after s c)
after_sound h s is (nothing p) f = is
after_sound h s is (block p b) f = is
after_sound h s is (var p t x e) f = value_sound p s is x Writable t f.1.1.0.0
after_sound h s is (assign p x e) f = is
after_sound h s is (choice p e a b) f = is
after_sound h s is (return_ p) f = is
after_sound h s is (exit_ p) f = is
after_sound h s is (call p x args) f = is

pub local_sound : (h : Part) (s : Scope) → IsSound s → (l : Local) → IsFine (local_tests h s l) → IsSound (after_local s l)
local_sound h s is (local_action p a) f = action_sound s is a.name a.params _ (params_kinds a.at s is a.params f.1.1.0)
local_sound h s is (local_table p t) f = table_sound s is t.name _
local_sound h s is (local_register p r) f = register_sound r.at s is r.name r.ty f.1.1.0
local_sound h s is (local_const p t x e) f = value_sound p s is x Constant t f.1.1.0.0
local_sound h s is (local_var p t x e) f = value_sound p s is x Writable t f.1.1.0.0

pub locals_sound : (h : Part) (ls : List Local) (s : Scope) → IsSound s → IsFine (locals_tests h s ls) → IsSound (after_locals s ls)
locals_sound h [] s is f = is
locals_sound h (l ∷ ls) s is f = locals_sound h ls (after_local s l) (local_sound h s is l f.0) f.1

pub ways_sound : (qs : List Param) (s : Scope) → IsSound s → IsFine (ways_tests s qs) → IsSound (with_ways s qs)
ways_sound [] s is f = is
ways_sound (q ∷ qs) s is f = ways_sound qs (declare s q.name (value (way_access q.way) q.ty)) (value_sound q.at s is q.name (way_access q.way) q.ty f.0.1) f.1

pub inside_sound : (h : Part) (s : Scope) → IsSound s → (c : Control) → IsFine (control_tests h s c) → IsSound (in_control s c)
inside_sound h s is c f = locals_sound h c.locals (with_ways s c.params) (ways_sound c.params s is f.1.0) f.1.1.0

pub top_sound : (main : List (List ℕ)) (s : Scope) → IsSound s → (t : Top) → IsFine (top_tests main s t) → IsSound (after_top s t)
top_sound main s is (constant p t x e) f = value_sound p s is x Constant t f.1.0.0
top_sound main s is (typedef p t x) f = alias_sound p s is x t f.1.0
top_sound main s is (header_type p x fs) f = fields_sound p is_no_number s is x (Header _) tt fs f.1.1.0
top_sound main s is (struct_type p x fs) f = fields_sound p is_no_field s is x Struct tt fs f.1.1
top_sound main s is (register p r) f = register_sound r.at s is r.name r.ty f.1.0
top_sound main s is (parser p d) f = part_sound s is d.name
top_sound main s is (control p c) f = part_sound s is c.name

-- ---- what is read

read_kind : (st : Stands) → IsSoundStands st → is_missing st ≡ false → reads st ≡ true → IsSoundKind (value_kind st)
read_kind missing h m k = absurd (let c : true ≡ false = m in cc)
read_kind (typed f t) h m k = absurd (let c : false ≡ true = k in cc)
read_kind (held a (Scalar j)) h m k = h
read_kind (held a (Header n)) h m k = absurd (let c : false ≡ true = k in cc)
read_kind (held a Struct) h m k = absurd (let c : false ≡ true = k in cc)
read_kind (held a Standard) h m k = absurd (let c : false ≡ true = k in cc)
read_kind (held a PacketIn) h m k = absurd (let c : false ≡ true = k in cc)
read_kind (held a PacketOut) h m k = absurd (let c : false ≡ true = k in cc)
read_kind (cells j) h m k = absurd (let c : false ≡ true = k in cc)
read_kind (act ks n) h m k = absurd (let c : false ≡ true = k in cc)
read_kind (rows n) h m k = absurd (let c : false ≡ true = k in cc)
read_kind state h m k = absurd (let c : false ≡ true = k in cc)
read_kind (function f) h m k = absurd (let c : false ≡ true = k in cc)
read_kind algorithm h m k = absurd (let c : false ≡ true = k in cc)
read_kind other h m k = absurd (let c : false ≡ true = k in cc)

pub reads_sound : (s : Scope) → IsSound s → ReadsSound s
reads_sound s is = record { kinds = λ x h k. read_kind (s x) (is.paths x) h k }

pub value_most : (s : Scope) → IsSound s → (x : List (List ℕ)) → is_missing (s x) ≡ false → reads (s x) ≡ true → kind_width (value_kind (s x)) ≤ 128
value_most s is x h k = (sound_width_of (value_kind (s x)) ((reads_sound s is).kinds x h k)).most

-- ---- what is wanted

pub truth_most : kind_width Truth ≤ 128
truth_most = omega arith

pub free_most : (s : Scope) → IsSound s → (e : Expr) (want : Kind) → IsFine (expr_tests s want e) → kind_width (as_value (own s e)) ≤ 128
free_most s is e want f = value_cap (own s e) (own_cap s (reads_sound s is) e want f)

pub index_most : (s : Scope) → IsSound s → (e : Expr) (want : Kind) → IsFine (expr_tests s want e) → kind_width (index_want (own s e)) ≤ 128
index_most s is e want f = number_cap (cond (is_open (own s e)) (Number 128) (own s e)) (pick_cap (is_open (own s e)) (own s e) (Number 128) (own_cap s (reads_sound s is) e want f) (omega arith))

pub kind_most : (k : Kind) → IsSoundKind k → kind_width k ≤ 128
kind_most k h = (sound_width_of k h).most

-- ---- forms

abbrev pub IsSoundForm : Form → Type 0
IsSoundForm unknown = Unit {0}
IsSoundForm ill = Unit {0}
IsSoundForm drops = Unit {0}
IsSoundForm digests = Unit {0}
IsSoundForm (sums v) = Unit {0}
IsSoundForm extracts = Unit {0}
IsSoundForm emits = Unit {0}
IsSoundForm applies = Unit {0}
IsSoundForm (reads_cell k) = IsSoundKind k
IsSoundForm (writes_cell k) = IsSoundKind k
IsSoundForm makes_valid = Unit {0}
IsSoundForm (acts ks) = AreSoundKinds ks

if_form : (b : Bool) (x y : Form) → IsSoundForm x → IsSoundForm y → IsSoundForm (cond b x y)
if_form true x y h k = h
if_form false x y h k = k

function_sound : (g : Function) → IsSoundForm (function_form g)
function_sound MarkToDrop = tt
function_sound Digest = tt
function_sound VerifyChecksum = tt
function_sound UpdateChecksum = tt

plain_sound : (st : Stands) → IsSoundStands st → IsSoundForm (plain_form st)
plain_sound missing h = tt
plain_sound (typed f t) h = tt
plain_sound (held a t) h = tt
plain_sound (cells k) h = tt
plain_sound (act ks n) h = h
plain_sound (rows n) h = tt
plain_sound state h = tt
plain_sound (function g) h = function_sound g
plain_sound algorithm h = tt
plain_sound other h = tt

on_thing : (t : Thing) (m : List ℕ) → IsSoundForm (thing_form t m)
on_thing (Scalar k) m = tt
on_thing (Header n) m = if_form (same_text m (codes "setValid") || same_text m (codes "setInvalid")) makes_valid ill tt tt
on_thing Struct m = tt
on_thing Standard m = tt
on_thing PacketIn m = if_form (same_text m (codes "extract")) extracts ill tt tt
on_thing PacketOut m = if_form (same_text m (codes "emit")) emits ill tt tt

verb_sound : (st : Stands) (m : List ℕ) → IsSoundStands st → IsSoundForm (verb_form st m)
verb_sound missing m h = tt
verb_sound (typed f t) m h = tt
verb_sound (held a t) m h = on_thing t m
verb_sound (cells k) m h = if_form (same_text m (codes "read")) (reads_cell k) _ h (if_form (same_text m (codes "write")) (writes_cell k) ill h tt)
verb_sound (act ks n) m h = tt
verb_sound (rows n) m h = if_form (same_text m (codes "apply")) applies ill tt tt
verb_sound state m h = tt
verb_sound (function g) m h = tt
verb_sound algorithm m h = tt
verb_sound other m h = tt

pub form_sound : (s : Scope) → IsSound s → (x : List (List ℕ)) → IsSoundForm (form_of s x)
form_sound s is [] = tt
form_sound s is (x ∷ []) = plain_sound (s (x ∷ [])) (is.paths (x ∷ []))
form_sound s is (x ∷ y ∷ rest) = verb_sound (s (parent (x ∷ y ∷ rest))) (last_name (x ∷ y ∷ rest)) (is.paths (parent (x ∷ y ∷ rest)))
