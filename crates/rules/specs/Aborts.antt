-- Service channels, aborts: why a request is refused, and the code that says so.
use Rattle.std.specs.Prelude.{ℕ}
use Rattle.rules.specs.declared.aborts.Abort.{Abort}
use Rattle.rules.specs.declared.aborts.Abort.TheVariants.{WrongToggle, UnknownCommand, JournalFull, ReadOnly, NoObject, JournalSpoiled, TooLong, TooShort, NoSubindex, WrongValue, WrongSignature, AxisNotGood, NoEntry}

abbrev pub abort_code : Abort → ℕ
abort_code WrongToggle = 0x05030000
abort_code UnknownCommand = 0x05040001
abort_code JournalFull = 0x05040005
abort_code ReadOnly = 0x06010002
abort_code NoObject = 0x06020000
abort_code JournalSpoiled = 0x06060000
abort_code TooLong = 0x06070012
abort_code TooShort = 0x06070013
abort_code NoSubindex = 0x06090011
abort_code WrongValue = 0x06090030
abort_code WrongSignature = 0x08000020
abort_code AxisNotGood = 0x08000022
abort_code NoEntry = 0x08000024
