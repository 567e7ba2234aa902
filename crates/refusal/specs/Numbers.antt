-- The numbers of refusals: of document 01's table 'What is checked where', 1 to 17, and of document 02's changes, from 18 on. 6 is given no longer
-- (document 02, Change 4). Assumes nothing.
use Rattle.std.specs.Prelude.{ℕ}
use Rattle.refusal.specs.declared.Refusal.{Refusal}
use Rattle.refusal.specs.declared.Refusal.TheVariants.{BookRunsOut, NoOperator, BadStrategy, UnknownOperatorInRule, LeftSideIsVariable, RightSideAddsVariable, SideTooLong, BookLeftOver, LineIsNoTerm, UnknownOperatorInLine, LineTooLong, BadUnits, UnknownUnitInSchedule, WorkTooShort, OutputTooShort, BadInput, TextTooLong, NoLetters, BadPointOrName, NinthName, AmountOutOfRange, BadRateOrShares, OutsideStrictProfile, RulesOverlap}

abbrev pub number : Refusal → ℕ
number BookRunsOut = 1
number NoOperator = 2
number BadStrategy = 3
number UnknownOperatorInRule = 4
number LeftSideIsVariable = 5
number RightSideAddsVariable = 7
number SideTooLong = 8
number BookLeftOver = 9
number LineIsNoTerm = 10
number UnknownOperatorInLine = 11
number LineTooLong = 12
number BadUnits = 13
number UnknownUnitInSchedule = 14
number WorkTooShort = 15
number OutputTooShort = 16
number BadInput = 17
number TextTooLong = 18
number NoLetters = 19
number BadPointOrName = 20
number NinthName = 21
number AmountOutOfRange = 22
number BadRateOrShares = 23
number OutsideStrictProfile = 24
number RulesOverlap = 25
