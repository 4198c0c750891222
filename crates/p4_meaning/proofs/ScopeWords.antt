-- The constants in sight have words of 1 to 128 bits, wherever a scope stands.
use Rattle.std.proofs.Common.{List, [], ◌∷◌}
use Rattle.p4_tree.specs.Tree.{Local, local_action, local_table, local_register, local_const, local_var, Top, constant, typedef, header_type, struct_type, register, parser, control}
use Rattle.p4_meaning.specs.Store.{blank}
use Rattle.p4_meaning.specs.Value.{value_of, width_of}
use Rattle.p4_meaning.specs.Scope.{Scope, type_under}
use Rattle.p4_meaning.specs.Under.{expr_under, behind_top, behind_tops, behind_local, behind_locals}
use Rattle.p4_meaning.specs.Laws.{AreWords}
use Rattle.p4_meaning.proofs.Words.{cast_is_word}

behind_one_top : (sc : Scope) (t : Top) → AreWords sc → AreWords (behind_top sc t)
behind_one_top sc (constant p ty x e) h = (cast_is_word (width_of (type_under sc.types ty)) (value_of (expr_under sc e) (width_of (type_under sc.types ty)) blank), h)
behind_one_top sc (typedef p ty x) h = h
behind_one_top sc (header_type p x fs) h = h
behind_one_top sc (struct_type p x fs) h = h
behind_one_top sc (register p r) h = h
behind_one_top sc (parser p d) h = h
behind_one_top sc (control p d) h = h

pub behind_all_tops : (sc : Scope) (ts : List Top) → AreWords sc → AreWords (behind_tops sc ts)
behind_all_tops sc [] h = h
behind_all_tops sc (t ∷ ts) h = behind_all_tops (behind_top sc t) ts (behind_one_top sc t h)

behind_one_local : (sc : Scope) (l : Local) → AreWords sc → AreWords (behind_local sc l)
behind_one_local sc (local_action p a) h = h
behind_one_local sc (local_table p t) h = h
behind_one_local sc (local_register p r) h = h
behind_one_local sc (local_const p ty x e) h = (cast_is_word (width_of (type_under sc.types ty)) (value_of (expr_under sc e) (width_of (type_under sc.types ty)) blank), h)
behind_one_local sc (local_var p ty x e) h = h

pub behind_all_locals : (sc : Scope) (ls : List Local) → AreWords sc → AreWords (behind_locals sc ls)
behind_all_locals sc [] h = h
behind_all_locals sc (l ∷ ls) h = behind_all_locals (behind_local sc l) ls (behind_one_local sc l h)
