-- What calls are for, and in which part of a program which statements stand. Read `Expressions` before it and `Calls`
-- after it.
use Rattle.std.specs.Prelude.{ℕ, List, [], ◌∷◌, Bool, true, false, ◌||◌, if◌then◌else◌, codes, Option, Some, None}
use Rattle.lex_text.specs.Names.{same_text, parent, last_name}
use Rattle.p4_tree.specs.Tree.{Expr, path}
use Rattle.p4_scopes.specs.Scopes.{Stands, missing, held, cells, act, rows, function, Scope}
use Rattle.p4_scopes.specs.declared.kind.Kind.{Kind}
use Rattle.p4_scopes.specs.declared.thing.Thing.{Thing}
use Rattle.p4_scopes.specs.declared.thing.Thing.TheVariants.{Header, PacketIn, PacketOut}
use Rattle.p4_scopes.specs.declared.thing.Function.{Function}
use Rattle.p4_scopes.specs.declared.thing.Function.TheVariants.{MarkToDrop, Digest, VerifyChecksum, UpdateChecksum}
use Rattle.p4_statement_rules.specs.declared.rule.Part.{Part}
use Rattle.p4_statement_rules.specs.declared.rule.Part.TheVariants as part

-- what a call is for, by what stands at its path
pub data Form : Type 0 where
  -- nothing stands there, or what does has no such call
  unknown : Form
  ill : Form
  drops : Form
  digests : Form
  -- verify_checksum, or else update_checksum
  sums : (verifies : Bool) → Form
  extracts : Form
  emits : Form
  applies : Form
  reads_cell : Kind → Form
  writes_cell : Kind → Form
  makes_valid : Form
  acts : List Kind → Form

abbrev pub function_form : Function → Form
function_form MarkToDrop = drops
function_form Digest = digests
function_form VerifyChecksum = sums true
function_form UpdateChecksum = sums false

-- a call by one name
abbrev pub plain_form : Stands → Form
plain_form missing = unknown
plain_form (function f) = function_form f
plain_form (act ks m) = acts ks
plain_form _ = ill

abbrev pub cell_form : Kind → (verb : List ℕ) → Form
cell_form k m = if same_text m (codes "read") then reads_cell k else if same_text m (codes "write") then writes_cell k else ill

abbrev pub thing_form : Thing → (verb : List ℕ) → Form
thing_form (Header n) m = if same_text m (codes "setValid") || same_text m (codes "setInvalid") then makes_valid else ill
thing_form PacketIn m = if same_text m (codes "extract") then extracts else ill
thing_form PacketOut m = if same_text m (codes "emit") then emits else ill
thing_form _ m = ill

-- a call on what stands at the names before the last one
abbrev pub verb_form : Stands → (verb : List ℕ) → Form
verb_form missing m = unknown
verb_form (rows n) m = if same_text m (codes "apply") then applies else ill
verb_form (cells k) m = cell_form k m
verb_form (held a t) m = thing_form t m
verb_form _ m = ill

abbrev pub form_of : Scope → List (List ℕ) → Form
form_of s [] = ill
form_of s (x ∷ []) = plain_form (s (x ∷ []))
form_of s (x ∷ y ∷ rest) = verb_form (s (parent (x ∷ y ∷ rest))) (last_name (x ∷ y ∷ rest))

-- ---- parts

-- the part has its one call alone
abbrev pub has_calls_alone : Part → Bool
has_calls_alone part.Verify = true
has_calls_alone part.Compute = true
has_calls_alone part.Deparser = true
has_calls_alone _ = false

-- declarations, blocks and `if` stand there
abbrev pub takes_any : Part → Bool
takes_any part.Apply = true
takes_any part.Action = true
takes_any part.Other = true
takes_any _ = false

-- assignments stand there
abbrev pub takes_assignments : Part → Bool
takes_assignments part.State = true
takes_assignments h = takes_any h

-- what ingress and egress and their actions alone have
abbrev pub takes_effects : Part → Bool
takes_effects part.Apply = true
takes_effects part.Action = true
takes_effects _ = false

-- tables are applied and actions called there
abbrev pub takes_runs : Part → Bool
takes_runs part.Apply = true
takes_runs _ = false

abbrev pub takes_sums : Part → (verifies : Bool) → Bool
takes_sums part.Verify true = true
takes_sums part.Compute false = true
takes_sums _ _ = false

abbrev pub takes_extracts : Part → Bool
takes_extracts part.State = true
takes_extracts _ = false

abbrev pub takes_emits : Part → Bool
takes_emits part.Deparser = true
takes_emits _ = false

-- a call of this form stands in the part
abbrev pub takes_call : Part → Form → Bool
takes_call h unknown = takes_any h
takes_call h ill = takes_any h
takes_call h drops = takes_effects h
takes_call h digests = takes_effects h
takes_call h (sums v) = takes_sums h v
takes_call h extracts = takes_extracts h
takes_call h emits = takes_emits h
takes_call h applies = takes_runs h
takes_call h (reads_cell k) = takes_effects h
takes_call h (writes_cell k) = takes_effects h
takes_call h makes_valid = takes_any h
takes_call h (acts ks) = takes_runs h

-- ---- expressions of one form

-- the place and the names of an expression that is a path
abbrev pub path_in : Expr → Option (ℕ × List (List ℕ))
path_in (path p x) = Some (p, x)
path_in _ = None
