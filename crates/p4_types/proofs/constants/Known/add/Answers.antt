use Rattle.p4_types.proofs.constants.Known.add.Goals as goal

pub returns-in-Const : goal.returns-in-Const
returns-in-Const c = rw c.in-Const.is c.add_constant.ensures

pub returns-in-Typedef : goal.returns-in-Typedef
returns-in-Typedef c = rw c.in-Typedef.is c.add_type.ensures
