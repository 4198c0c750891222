-- What holds of the names of all fields, and of the architecture's, holds of each name behind the first of a path that stands
-- for something: it is the program's own, and can be spelled.
use Rattle.std.proofs.Common.{◌≡◌, ℕ, List, [], ◌∷◌, Bool, true, false, not, cond, ◌&&◌, ◌||◌, codes, refl, sym, subst}
use Rattle.std.specs.List.{AllByRecursion}
use Rattle.lex_text.specs.Names.{same_text}
use Rattle.lex_text.specs.Comments.{begins}
use Rattle.p4_tree.specs.Tree.{Top, constant, typedef, header_type, struct_type, register, parser, control}
use Rattle.p4_tree.specs.declared.statement.PTy.{PTy}
use Rattle.p4_tree.specs.declared.statement.PTy.TheVariants as type
use Rattle.p4_scopes.specs.Scopes as scope
use Rattle.p4_scopes.specs.Scopes.{Stands, missing, typed, algorithm, Scope, is_missing, as_typed, as_held, type_at, field_at, fields_bits, What, alias, fields, value, action, table, parser_state, part, behind, declare, standard_at, core}
use Rattle.p4_scopes.specs.declared.kind.Kind.TheVariants.{Number, Error}
use Rattle.p4_scopes.specs.declared.thing.Thing.TheVariants.{Scalar, Header, Struct}
use Rattle.p4_scopes.specs.declared.thing.Access.{Access}
use Rattle.p4_scopes.specs.declared.thing.Access.TheVariants.{Constant}
use Rattle.p4_declaration_rules.specs.Controls.{after_top, after_tops}
use Rattle.p4_rule_laws.specs.Old.{OldPath, OldFields}
use Rattle.p4_rule_laws.specs.OldPrograms.{OldTops}
use Rattle.p4_printer.specs.CanSpell.{IsName, CanSpellField, CanSpellTop, EachCan}
use Rattle.own_code.proofs.Apart.{text_decides}
use Rattle.own_programs.specs.OwnPrograms.{is_own}
use Rattle.exit_programs.specs.Names.{is_given}

-- the names of the architecture's fields
pub record HoldsOfCore (P : List ℕ → Type 0) : Type 0 where
  pub spec : P (codes "egress_spec")
  pub ingress : P (codes "ingress_port")
  pub egress : P (codes "egress_port")
  pub length : P (codes "packet_length")
  pub sums : P (codes "checksum_error")
  pub parser : P (codes "parser_error")
  pub algorithm : P (codes "csum16")

pub record HasPaths (P : List ℕ → Type 0) (s : Scope) : Type 0 where
  pub behind : (x : List ℕ) (xs : List (List ℕ)) → is_missing (s (x ∷ xs)) ≡ false → AllByRecursion P xs

no_case : {A : Type 0} → true ≡ false → A
no_case e = absurd (cc e)

given_is_own : (x : List ℕ) → is_given x ≡ true → is_own x ≡ true
given_is_own x g = go (begins (codes "hydra_") x) g
  where
    go : (b : Bool) → not b ≡ true → not (b && not (begins (codes "hydra_x_") x)) ≡ true
    go true h = no_case (sym h)
    go false h = refl

abbrev FieldsHold : (List ℕ → Type 0) → List (PTy × List ℕ) → Type 0
FieldsHold P [] = Unit {0}
FieldsHold P (f ∷ fs) = P f.1 × FieldsHold P fs

from_typed : (st : Stands) → is_missing (as_typed st) ≡ false → is_missing st ≡ false
from_typed missing h = h
from_typed _ h = refl

from_held : (a : Access) (st : Stands) → is_missing (as_held a st) ≡ false → is_missing st ≡ false
from_held a missing h = h
from_held a _ h = refl

abbrev WhatHolds : (List ℕ → Type 0) → What → Type 0
WhatHolds P (fields h fs) = FieldsHold P fs
WhatHolds P _ = Unit {0}

abbrev TopsHold : (List ℕ → Type 0) → List Top → Type 0
TopsHold P [] = Unit {0}
TopsHold P (header_type p x fs ∷ ts) = FieldsHold P fs × TopsHold P ts
TopsHold P (struct_type p x fs ∷ ts) = FieldsHold P fs × TopsHold P ts
TopsHold P (t ∷ ts) = TopsHold P ts

module _ (P : List ℕ → Type 0) (c : HoldsOfCore P) where
  -- ---- the standard metadata

  standard_holds : (x : List ℕ) → is_missing (standard_at x) ≡ false → P x
  standard_holds x h = go (same_text x (codes "egress_spec")) refl (same_text x (codes "ingress_port")) refl (same_text x (codes "egress_port")) refl (same_text x (codes "packet_length")) refl (same_text x (codes "checksum_error")) refl (same_text x (codes "parser_error")) refl h
    where
      by : (n : List ℕ) → same_text x n ≡ true → P n → P x
      by n e k = subst P (sym ((text_decides x n).0 e)) k

      go : (a : Bool) → same_text x (codes "egress_spec") ≡ a → (b : Bool) → same_text x (codes "ingress_port") ≡ b → (d : Bool) → same_text x (codes "egress_port") ≡ d → (e : Bool) → same_text x (codes "packet_length") ≡ e → (g : Bool) → same_text x (codes "checksum_error") ≡ g → (m : Bool) → same_text x (codes "parser_error") ≡ m
          → is_missing (cond a (typed false (Scalar (Number 9))) (cond (b || d) (typed true (Scalar (Number 9))) (cond e (typed true (Scalar (Number 32))) (cond g (typed true (Scalar (Number 1))) (cond m (typed true (Scalar Error)) missing))))) ≡ false
          → P x
      go true i b j d k e l g m n o h = by (codes "egress_spec") i c.spec
      go false i true j d k e l g m n o h = by (codes "ingress_port") j c.ingress
      go false i false j true k e l g m n o h = by (codes "egress_port") k c.egress
      go false i false j false k true l g m n o h = by (codes "packet_length") l c.length
      go false i false j false k false l true m n o h = by (codes "checksum_error") m c.sums
      go false i false j false k false l false m true o h = by (codes "parser_error") o c.parser
      go false i false j false k false l false m false o h = no_case h

  core_holds : HasPaths P core
  unfolding core
  core_holds = record { behind = go }
    where
      go : (x : List ℕ) (xs : List (List ℕ)) → is_missing (core (x ∷ xs)) ≡ false → AllByRecursion P xs
      go x [] h = tt
      go x (y ∷ z ∷ zs) h = no_case h
      go x (y ∷ []) h = (at (same_text x (codes "standard_metadata_t")) (same_text x (codes "HashAlgorithm")) (same_text y (codes "csum16")) refl h, tt)
        where
          at : (a b d : Bool) → same_text y (codes "csum16") ≡ d → is_missing (cond a (standard_at y) (cond (b && d) algorithm missing)) ≡ false → P y
          at true b d e h = standard_holds y h
          at false true true e h = subst P (sym ((text_decides y (codes "csum16")).0 e)) c.algorithm
          at false true false e h = no_case h
          at false false d e h = no_case h

  -- ---- declarations

  module _ (s : Scope) (o : HasPaths P s) where
    in_type : (t : PTy) (xs : List (List ℕ)) → is_missing (type_at s t xs) ≡ false → AllByRecursion P xs
    in_type (type.Bit w) [] h = tt
    in_type (type.Bit w) (x ∷ xs) h = no_case h
    in_type type.Bool [] h = tt
    in_type type.Bool (x ∷ xs) h = no_case h
    in_type (type.Named t) xs h = o.behind t xs (from_typed (s (t ∷ xs)) h)

    in_fields : (fs : List (PTy × List ℕ)) → FieldsHold P fs → (y : List ℕ) (ys : List (List ℕ)) → is_missing (field_at s fs y ys) ≡ false → AllByRecursion P (y ∷ ys)
    in_fields [] g y ys h = no_case h
    in_fields (f ∷ fs) g y ys h = go (same_text f.1 y) refl h (in_fields fs g.1 y ys)
      where
        go : (b : Bool) → same_text f.1 y ≡ b → is_missing (cond b (type_at s f.0 ys) (field_at s fs y ys)) ≡ false → (is_missing (field_at s fs y ys) ≡ false → AllByRecursion P (y ∷ ys)) → AllByRecursion P (y ∷ ys)
        go true e k more = (subst P ((text_decides f.1 y).0 e) g.0, in_type f.0 ys k)
        go false e k more = more k

    in_what : (w : What) → WhatHolds P w → (xs : List (List ℕ)) → is_missing (behind s w xs) ≡ false → AllByRecursion P xs
    in_what w g [] h = tt
    in_what (fields t fs) g (y ∷ ys) h = in_fields fs g y ys h
    in_what (value a t) g (y ∷ ys) h = in_type t (y ∷ ys) (from_held a (type_at s t (y ∷ ys)) h)
    in_what (alias t) g (y ∷ ys) h = no_case h
    in_what (scope.register t) g (y ∷ ys) h = no_case h
    in_what (action ps m) g (y ∷ ys) h = no_case h
    in_what (table m) g (y ∷ ys) h = no_case h
    in_what parser_state g (y ∷ ys) h = no_case h
    in_what part g (y ∷ ys) h = no_case h

    declare_holds : (n : List ℕ) (w : What) → WhatHolds P w → HasPaths P (declare s n w)
    unfolding declare
    declare_holds n w g = record { behind = λ x xs h. go x xs (same_text n x) h }
      where
        go : (x : List ℕ) (xs : List (List ℕ)) (b : Bool) → is_missing (cond b (behind s w xs) (s (x ∷ xs))) ≡ false → AllByRecursion P xs
        go x xs true h = in_what w g xs h
        go x xs false h = o.behind x xs h

  tops_hold : (ys : List Top) (s : Scope) → HasPaths P s → TopsHold P ys → HasPaths P (after_tops s ys)
  tops_hold [] s o g = o
  tops_hold (constant p t x e ∷ ys) s o g = tops_hold ys (after_top s (constant p t x e)) (declare_holds s o x (value Constant t) tt) g
  tops_hold (typedef p t x ∷ ys) s o g = tops_hold ys (after_top s (typedef p t x)) (declare_holds s o x (alias t) tt) g
  tops_hold (header_type p x fs ∷ ys) s o g = tops_hold ys (after_top s (header_type p x fs)) (declare_holds s o x (fields (Header (fields_bits s fs)) fs) g.0) g.1
  tops_hold (struct_type p x fs ∷ ys) s o g = tops_hold ys (after_top s (struct_type p x fs)) (declare_holds s o x (fields Struct fs) g.0) g.1
  tops_hold (register p r ∷ ys) s o g = tops_hold ys (after_top s (register p r)) (declare_holds s o r.name (scope.register r.ty) tt) g
  tops_hold (parser p d ∷ ys) s o g = tops_hold ys (after_top s (parser p d)) (declare_holds s o d.name part tt) g
  tops_hold (control p d ∷ ys) s o g = tops_hold ys (after_top s (control p d)) (declare_holds s o d.name part tt) g

-- ---- own names

abbrev pub IsOwn : List ℕ → Type 0
IsOwn x = is_own x ≡ true

fields_given : (fs : List (PTy × List ℕ)) → OldFields is_given fs → FieldsHold IsOwn fs
fields_given [] g = tt
fields_given (f ∷ fs) g = (given_is_own f.1 g.1, fields_given fs g.2)

tops_given : (ts : List Top) → OldTops is_given ts → TopsHold IsOwn ts
tops_given [] g = tt
tops_given (header_type p x fs ∷ ts) g = (fields_given fs g.0.1, tops_given ts g.1)
tops_given (struct_type p x fs ∷ ts) g = (fields_given fs g.0.1, tops_given ts g.1)
tops_given (constant p t x e ∷ ts) g = tops_given ts g.1
tops_given (typedef p t x ∷ ts) g = tops_given ts g.1
tops_given (register p r ∷ ts) g = tops_given ts g.1
tops_given (parser p d ∷ ts) g = tops_given ts g.1
tops_given (control p c ∷ ts) g = tops_given ts g.1

pub paths_own : (ts : List Top) → OldTops is_given ts → HasPaths IsOwn (after_tops core ts)
paths_own ts g =
    (let c : HoldsOfCore IsOwn = record { spec = refl; ingress = refl; egress = refl; length = refl; sums = refl; parser = refl; algorithm = refl } in
    tops_hold IsOwn c ts core (core_holds IsOwn c) (tops_given ts g))

pub old_path : (xs : List (List ℕ)) → AllByRecursion IsOwn xs → OldPath is_own xs
old_path [] h = tt
old_path (x ∷ xs) h = (h.0, old_path xs h.1)

-- ---- names that can be spelled

fields_spelled : (fs : List (PTy × List ℕ)) → EachCan CanSpellField fs → FieldsHold IsName fs
fields_spelled [] h = tt
fields_spelled (f ∷ fs) h = (h.0.1, fields_spelled fs h.1)

tops_spelled : (ts : List Top) → EachCan CanSpellTop ts → TopsHold IsName ts
tops_spelled [] h = tt
tops_spelled (header_type p x fs ∷ ts) h = (fields_spelled fs h.0.1, tops_spelled ts h.1)
tops_spelled (struct_type p x fs ∷ ts) h = (fields_spelled fs h.0.1, tops_spelled ts h.1)
tops_spelled (constant p t x e ∷ ts) h = tops_spelled ts h.1
tops_spelled (typedef p t x ∷ ts) h = tops_spelled ts h.1
tops_spelled (register p r ∷ ts) h = tops_spelled ts h.1
tops_spelled (parser p d ∷ ts) h = tops_spelled ts h.1
tops_spelled (control p c ∷ ts) h = tops_spelled ts h.1

pub paths_spelled : (ts : List Top) → EachCan CanSpellTop ts → HasPaths IsName (after_tops core ts)
paths_spelled ts h =
    (let c : HoldsOfCore IsName = record { spec = (refl, refl); ingress = (refl, refl); egress = (refl, refl); length = (refl, refl); sums = (refl, refl); parser = (refl, refl); algorithm = (refl, refl) } in
    tops_hold IsName c ts core (core_holds IsName c) (tops_spelled ts h))
