-- No refusal has the number 0. Assumes nothing.
use Rattle.std.proofs.Common.{ℕ, ◌<◌, arith}
use Rattle.refusal.specs.Numbers.{number}
use Rattle.refusal.specs.declared.Refusal.{Refusal}
use Rattle.refusal.specs.declared.Refusal.TheVariants.{BookRunsOut, NoOperator, BadStrategy, UnknownOperatorInRule, LeftSideIsVariable, RightSideAddsVariable, SideTooLong, BookLeftOver, LineIsNoTerm, UnknownOperatorInLine, LineTooLong, BadUnits, UnknownUnitInSchedule, WorkTooShort, OutputTooShort, BadInput, TextTooLong, NoLetters, BadPointOrName, NinthName, AmountOutOfRange, BadRateOrShares, OutsideStrictProfile, RulesOverlap}

pub some_number : (e : Refusal) → 0 < number e
some_number BookRunsOut = omega arith
some_number NoOperator = omega arith
some_number BadStrategy = omega arith
some_number UnknownOperatorInRule = omega arith
some_number LeftSideIsVariable = omega arith
some_number RightSideAddsVariable = omega arith
some_number SideTooLong = omega arith
some_number BookLeftOver = omega arith
some_number LineIsNoTerm = omega arith
some_number UnknownOperatorInLine = omega arith
some_number LineTooLong = omega arith
some_number BadUnits = omega arith
some_number UnknownUnitInSchedule = omega arith
some_number WorkTooShort = omega arith
some_number OutputTooShort = omega arith
some_number BadInput = omega arith
some_number TextTooLong = omega arith
some_number NoLetters = omega arith
some_number BadPointOrName = omega arith
some_number NinthName = omega arith
some_number AmountOutOfRange = omega arith
some_number BadRateOrShares = omega arith
some_number OutsideStrictProfile = omega arith
some_number RulesOverlap = omega arith
