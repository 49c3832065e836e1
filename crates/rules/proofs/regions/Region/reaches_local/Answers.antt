use Rattle.std.proofs.Common.{arith}
use Rattle.rules.proofs.Passed.{parameters-small, result-small}
use Rattle.rules.proofs.regions.Region.reaches_local.Goals as goal

pub overflow_add-passed : goal.overflow_add-passed
overflow_add-passed c =
    omega (arith, parameters-small 8 c.args.self.now.owner.kinds.now, result-small c.args.self.now.owner.result, c.parameters_size.ensures, c.result_size.ensures)

pub overflow_add-from : goal.overflow_add-from
overflow_add-from c =
    omega (arith, parameters-small 8 c.args.self.now.owner.kinds.now, result-small c.args.self.now.owner.result, c.parameters_size.ensures, c.result_size.ensures)
