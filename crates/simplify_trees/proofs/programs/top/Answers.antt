use Rattle.std.proofs.Common.{◌≡◌, refl, ap}
use Rattle.p4_tree.specs.Tree.{control}
use Rattle.p4_tree.specs.View.{control_of, top_of}
use Rattle.rewritten_programs.specs.Rewritten.{constant_stays, typedef_stays, header_stays, struct_stays, register_stays, parser_stays, in_control}
use Rattle.simplify_rules.specs.Simplified.{IsSimplified}
use Rattle.simplify_trees.proofs.Built.{top_built, top_copied}
use Rattle.simplify_trees.proofs.programs.top.Goals as goal

pub returns-in_ok-control-in-Ctl : goal.returns-in_ok-control-in-Ctl
returns-in_ok-control-in-Ctl g c =
    top_built (IsSimplified (g.R.Offers.Answers c.args.rules.now)) _ (control c.in-Ctl.at (control_of c.in-Ctl.c)) (control c.in-Ctl.at (control_of c.in_ok-control-in-Ctl.field-0)) _ (ap top_of c.in-Ctl.is) refl
    (in_control _ c.in_ok-control-in-Ctl.ensures)

pub returns-in-Const : goal.returns-in-Const
returns-in-Const g c = top_copied (IsSimplified (g.R.Offers.Answers c.args.rules.now)) (top_of c.args.t.now) _ (ap top_of c.in-Const.is) (constant_stays _ _ _ _) c.copy.result c.copy.ensures

pub returns-in-Typedef : goal.returns-in-Typedef
returns-in-Typedef g c = top_copied (IsSimplified (g.R.Offers.Answers c.args.rules.now)) (top_of c.args.t.now) _ (ap top_of c.in-Typedef.is) (typedef_stays _ _ _) c.copy-in-Typedef.result c.copy-in-Typedef.ensures

pub returns-in-Header : goal.returns-in-Header
returns-in-Header g c = top_copied (IsSimplified (g.R.Offers.Answers c.args.rules.now)) (top_of c.args.t.now) _ (ap top_of c.in-Header.is) (header_stays _ _ _) c.copy-in-Header.result c.copy-in-Header.ensures

pub returns-in-Struct : goal.returns-in-Struct
returns-in-Struct g c = top_copied (IsSimplified (g.R.Offers.Answers c.args.rules.now)) (top_of c.args.t.now) _ (ap top_of c.in-Struct.is) (struct_stays _ _ _) c.copy-in-Struct.result c.copy-in-Struct.ensures

pub returns-in-Reg : goal.returns-in-Reg
returns-in-Reg g c = top_copied (IsSimplified (g.R.Offers.Answers c.args.rules.now)) (top_of c.args.t.now) _ (ap top_of c.in-Reg.is) (register_stays _ _) c.copy-in-Reg.result c.copy-in-Reg.ensures

pub returns-in-Pars : goal.returns-in-Pars
returns-in-Pars g c = top_copied (IsSimplified (g.R.Offers.Answers c.args.rules.now)) (top_of c.args.t.now) _ (ap top_of c.in-Pars.is) (parser_stays _ _) c.copy-in-Pars.result c.copy-in-Pars.ensures
