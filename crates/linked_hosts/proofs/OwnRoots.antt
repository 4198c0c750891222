-- The parameters of a control of a program with own names have own names.
use Rattle.std.proofs.Common.{◌≡◌, ℕ, List, [], ◌∷◌, Bool, true, false, cond, Some, subst}
use Rattle.lex_text.specs.Names.{same_text}
use Rattle.p4_tree.specs.Tree.{Control, Top, constant, typedef, header_type, struct_type, register, parser, control}
use Rattle.p4_meaning.specs.Parts.{control_named, named_in}
use Rattle.p4_rule_laws.specs.OldPrograms.{OldTops, OldControl}
use Rattle.own_programs.specs.OwnPrograms.{is_own}
use Rattle.linked_programs.specs.Linked.{control_roots}
use Rattle.linked_programs.specs.Gives.{AreOwnRoots}
use Rattle.linked_programs.proofs.LinkedControls.{name_given}
use Rattle.linked_hosts.specs.Linkable.{LinkableHasOwnRoots}

control_own : (ts : List Top) (x : List ℕ) (c : Control) → OldTops is_own ts → control_named ts x ≡ Some c → OldControl is_own c
control_own [] x c o e = absurd (cc e)
control_own (constant p t y v ∷ ts) x c o e = control_own ts x c o.1 e
control_own (typedef p t y ∷ ts) x c o e = control_own ts x c o.1 e
control_own (header_type p y fs ∷ ts) x c o e = control_own ts x c o.1 e
control_own (struct_type p y fs ∷ ts) x c o e = control_own ts x c o.1 e
control_own (register p d ∷ ts) x c o e = control_own ts x c o.1 e
control_own (parser p d ∷ ts) x c o e = control_own ts x c o.1 e
control_own (control p d ∷ ts) x c o e = go (same_text d.name x) e (control_own ts x c o.1)
  where
    go : (b : Bool) → cond b (Some d) (control_named ts x) ≡ Some c → (control_named ts x ≡ Some c → OldControl is_own c) → OldControl is_own c
    go true i more = subst (OldControl is_own) (let same : d ≡ c = cc in same) o.0
    go false i more = more i

roots_own : (c : Control) → OldControl is_own c → AreOwnRoots (control_roots c)
roots_own c o = record { headers = name_given c.params 0 o.params; metadata = name_given c.params 1 o.params; standard = name_given c.params 2 o.params }

pub linkable_has_own_roots : LinkableHasOwnRoots
linkable_has_own_roots p k =
    record {
      ingress = roots_own k.ingress (control_own p.tops (named_in p.main 2) k.ingress k.ready.names.tops k.ready.ingress);
      egress = roots_own k.egress (control_own p.tops (named_in p.main 3) k.egress k.ready.names.tops k.ready.egress);
    }
