-- A property is the one that its text spells, or is refused for a cause that the text has.
use Rattle.std.proofs.Common.{◌≡◌, ◌≢◌, ℕ, List, Some, Result, Ok, Err, IfOk, refl, sym, subst}
use Rattle.lex_text.specs.declared.fault.LexFault.{LexFault}
use Rattle.outside.specs.State.{StoreState}
use Rattle.indus_tree.specs.Tree.{Property}
use Rattle.indus_tree.specs.View.{property_of}
use Rattle.indus_tree.specs.declared.tree.Property as code
use Rattle.indus_reader.specs.Faults.{IsProperty, HasCause}
use Rattle.indus_reader.specs.declared.fault.PropertyFault.{PropertyFault}
use Rattle.indus_reader.specs.declared.fault.PropertyFault.TheVariants.{NoMemory, Lex, Syntax, TooDeep}
use Rattle.indus_reader.proofs.OneAnswer.{one_property, no_property}
use Rattle.indus_rules.specs.Rules.{first, IsWellTyped}
use Rattle.indus_rules.specs.Sites.{property_sites}
use Rattle.indus_types.proofs.Checked.{a_fault}
use Rattle.indus_rules.specs.declared.rule.Rule.{Rule}
use Rattle.job_course.specs.declared.status.Status.TheVariants.{BadProperty}
use Rattle.job_course.specs.declared.status.Stop.{Stop}
use Rattle.job_course.specs.Course.{and_then}
use Rattle.job_course.specs.Steps.{Follows, Settles, Rejects}
use Rattle.property_course.specs.Files.{IsMisread, IsOfText, IsTyped, IsIllTyped, typed_property}
use Rattle.property_course.specs.Lines.{fault_line, type_line}

pub is_spelled : (name text : List ℕ) (t : Property) → IsProperty text t → Settles (IsProperty text) (IsMisread name text) t
is_spelled name text t given = record {
  given = given;
  alone = λ other w. one_property text t other given w;
  free = λ s l refused. refused.1.1 (no_property text refused.1.0 refused.1.2 t given);
}

pub is_misread : (name text line : List ℕ) (f : PropertyFault) → f ≢ NoMemory → HasCause text f → line ≡ fault_line name f → Rejects (IsProperty text) (IsMisread name text) BadProperty line
is_misread name text line f some cause e = record {
  kind = tt;
  admitted = (refl, (f, some, cause, e));
  given = λ t w. some (no_property text f cause t w);
  other = λ s l refused. refused.0;
}

pub is_typed : (name : List ℕ) (tree p : Property) → p ≡ tree → IsWellTyped tree → Settles (IsTyped tree) (IsIllTyped name tree) p
is_typed name tree p e fine = record {
  given = (e, fine);
  alone = λ other w. let x = w.0 in cc;
  free = λ s l refused. fine refused.1.1 refused.1.0 (a_fault tree (refused.1.0, refused.1.1) refused.1.2);
}

pub is_ill_typed : (name line : List ℕ) (tree : Property) (at : ℕ) (r : Rule) → first (property_sites tree) ≡ Some (at, r) → line ≡ type_line name at r → Rejects (IsTyped tree) (IsIllTyped name tree) BadProperty line
is_ill_typed name line tree at r broken e = record {
  kind = tt;
  admitted = (refl, (at, r, broken, e));
  given = λ p w. w.1 r at (a_fault tree (at, r) broken);
  other = λ s l refused. refused.0;
}

-- want of memory is no such fault
pub lex_some : (f : LexFault) → Lex f ≢ NoMemory
lex_some f e = absurd cc

pub syntax_some : (at_word : ℕ) → Syntax at_word ≢ NoMemory
syntax_some at_word e = absurd cc

pub deep_some : (at_word : ℕ) → TooDeep at_word ≢ NoMemory
deep_some at_word e = absurd cc

-- what the course gives was spelled
pub is_of_text : (name : List ℕ) (p : Property) → (typed_property name).may p → IsOfText p
unfolding and_then
is_of_text name p (tree, (text, short, spelled), typed) =
    record { text = text; short = short; spelled = subst (λ (x : Property). IsProperty text x) (sym typed.0) spelled }

-- so is one that was read
pub if_of_text : (name : List ℕ) (s t : StoreState) (r : Result code.Property Stop) → Follows (typed_property name) property_of s t r → IfOk r (λ p. IsOfText (property_of p))
if_of_text name s t (Ok p) h = is_of_text name (property_of p) h.keeps.may
if_of_text name s t (Err e) h = tt
