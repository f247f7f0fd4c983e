-- The numbers that refusals are told by: the abort codes of a service channel, and those of the origin query.
use Rattle.std.specs.Prelude.{◌≡◌, [], ◌∷◌, map}
use Rattle.rules.specs.declared.aborts.Abort.TheVariants.{WrongToggle, UnknownCommand, JournalFull, ReadOnly, NoObject, JournalSpoiled, TooLong, TooShort, NoSubindex, WrongValue, WrongSignature, AxisNotGood, NoEntry}
use Rattle.rules.specs.declared.origins.NoOrigin.TheVariants.{WrongLength, NoSetting}
use Rattle.rules.specs.Aborts.{abort_code}
use Rattle.rules.specs.Origins.{no_origin_number}

-- "Wrong toggle: 05030000h"; "All others get 05040001h"; "full: 05040005"; "writing read-only (06010002h)"; "object (06020000h)"; "Spoiled: 06060000h";
-- "too long 06070012h, too short 06070013h"; "subindex (06090011h)"; "value 06090030h"; "wrong signature: 08000020h"; "not good: 08000022h"; "1003:n above the length: 08000024h"
abbrev pub AbortCodes : Type 0
AbortCodes =
    map abort_code
    (WrongToggle ∷ UnknownCommand ∷ JournalFull ∷ ReadOnly ∷ NoObject ∷ JournalSpoiled ∷ TooLong ∷ TooShort ∷ NoSubindex ∷ WrongValue ∷ WrongSignature ∷ AxisNotGood ∷ NoEntry ∷ [])
    ≡ 0x05030000 ∷ 0x05040001 ∷ 0x05040005 ∷ 0x06010002 ∷ 0x06020000 ∷ 0x06060000 ∷ 0x06070012 ∷ 0x06070013 ∷ 0x06090011 ∷ 0x06090030 ∷ 0x08000020 ∷ 0x08000022 ∷ 0x08000024 ∷ []

-- "a bad journal length gives 1; after that, a pair that is no setting gives a new number 6"
abbrev pub OriginNumbers : Type 0
OriginNumbers = map no_origin_number (WrongLength ∷ NoSetting ∷ []) ≡ 1 ∷ 6 ∷ []
