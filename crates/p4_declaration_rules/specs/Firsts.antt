-- Declarations at top level where of those of one name the first counts: what a later one says is not seen. Read
-- `Controls` before it and `Mains` after it.
use Rattle.std.specs.Prelude.{ℕ, List, [], ◌∷◌, if◌then◌else◌}
use Rattle.p4_tree.specs.Tree.{Top, constant, typedef, header_type, struct_type, register, parser, control}
use Rattle.p4_scopes.specs.Scopes.{Scope, is_missing}
use Rattle.p4_declaration_rules.specs.Controls.{after_top}

-- the name that is declared
abbrev pub top_name : Top → List ℕ
top_name (constant p t x e) = x
top_name (typedef p t x) = x
top_name (header_type p x fs) = x
top_name (struct_type p x fs) = x
top_name (register p r) = r.name
top_name (parser p d) = d.name
top_name (control p c) = c.name

-- what is in sight behind a declaration, which changes nothing where its name is in sight before
abbrev pub first_top : Scope → Top → Scope
first_top s t = if is_missing (s (top_name t ∷ [])) then after_top s t else s

-- what is in sight behind declarations, where of those of one name the first counts
abbrev pub first_tops : Scope → List Top → Scope
first_tops s [] = s
first_tops s (t ∷ ts) = first_tops (first_top s t) ts
