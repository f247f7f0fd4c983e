-- The state seen as cells: the parts that service requests act on, each by itself.
use mathlib.Core.Path.{◌≡◌, refl}
use mathlib.Core.List.{[], ◌∷◌}
use Prim.Native.Nat.{ℕ}
use Rattle.rules.proofs.BySetting.{settings_of}
use Rattle.rules.proofs.Table.{setting_of}
use Rattle.rules.specs.declared.errors.ErrorList.{ErrorList}
use Rattle.rules.specs.declared.objects.Axis.{Axis}
use Rattle.rules.specs.declared.objects.Axis.TheVariants.{X, Y}
use Rattle.rules.specs.declared.objects.Channel.{Channel}
use Rattle.rules.specs.declared.objects.Channel.TheVariants.{One, Two}
use Rattle.rules.specs.declared.objects.PdoNumber.{PdoNumber}
use Rattle.rules.specs.declared.objects.PdoNumber.TheVariants.{First}
use Rattle.rules.specs.declared.objects.Setting.{Setting}
use Rattle.rules.specs.declared.parts.Identity.{Identity}
use Rattle.rules.specs.declared.parts.Lss.{Lss}
use Rattle.rules.specs.declared.parts.PdoCounts.{PdoCounts}
use Rattle.rules.specs.declared.parts.Reading.{Reading}
use Rattle.rules.specs.declared.parts.Transfer.{Transfer}
use Rattle.rules.specs.Service.{Kept, kept_in}
use Rattle.rules.specs.Settings.{Held, setting}
use Rattle.rules.specs.State.{State, pdo_counts, transfer_of, reading}

-- what no request changes
pub record Rest : Type 0 where
  pub node : ℕ
  pub identity : Identity
  pub network : ℕ
  pub blocks : ℕ
  pub spoiled : ℕ

pub data Cell : Type 0 where
  running : Setting → Cell
  errors : Cell
  kept : Cell
  heartbeat : Cell
  pdo : PdoNumber → Cell
  transfer : Channel → Cell
  axis : Axis → Cell
  lss : Cell
  rest : Cell

abbrev pub Content : Cell → Type 0
Content (running s) = Held s
Content errors = ErrorList
Content kept = Kept
Content heartbeat = ℕ
Content (pdo n) = PdoCounts
Content (transfer c) = Transfer
Content (axis a) = Reading
Content lss = Lss
Content rest = Rest

abbrev pub get : (k : Cell) → State → Content k
get (running s) u = setting s u.running
get errors u = u.errors
get kept u = kept_in u
get heartbeat u = u.heartbeat
get (pdo n) u = pdo_counts n u
get (transfer c) u = transfer_of c u
get (axis a) u = reading a u
get lss u = u.lss
get rest u = record {
  node = u.node;
  identity = u.identity;
  network = u.network;
  blocks = u.saves.blocks;
  spoiled = u.saves.spoiled;
}

-- the state with each part given
abbrev pub state_of : ((k : Cell) → Content k) → State
state_of f = record {
  node = (f rest).node;
  identity = (f rest).identity;
  network = (f rest).network;
  lss = f lss;
  saves = record { blocks = (f rest).blocks; filled = (f kept).filled; spoiled = (f rest).spoiled; node = (f kept).node; stored = (f kept).stored };
  running = settings_of (λ s. f (running s));
  errors = f errors;
  heartbeat = f heartbeat;
  pdo = f (pdo First);
  transfers = f (transfer One) ∷ f (transfer Two) ∷ [];
  x = f (axis X);
  y = f (axis Y);
  journal = (f kept).journal;
}

-- a state made of cells has these cells
pub get_of : (f : (k : Cell) → Content k) (k : Cell) → get k (state_of f) ≡ f k
get_of f (running s) = setting_of (λ s. f (running s)) s
get_of f errors = refl
get_of f kept = refl
get_of f heartbeat = refl
get_of f (pdo First) = refl
get_of f (transfer One) = refl
get_of f (transfer Two) = refl
get_of f (axis X) = refl
get_of f (axis Y) = refl
get_of f lss = refl
get_of f rest = refl

-- and the same cells make the same state
pub of_same : (f g : (k : Cell) → Content k) → ((k : Cell) → f k ≡ g k) → state_of f ≡ state_of g
of_same f g h = λ i. state_of (λ k. h k i)
