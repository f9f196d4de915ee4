-- How a configuration comes to have all its texts, over an outfit (this project's own).
use Rattle.std.specs.Prelude.{◌≡◌, ◌⊎◌, ◌∷◌, ◌++◌, [], ℕ, Bool, true, false, List, Option, Some, None, Result, Ok, Err}
use Rattle.outfits.specs.Children.{Child, Children}
use Rattle.cli_words.specs.declared.words.Name.{Name}
use Rattle.config_model.specs.declared.config.Config.{Config}
use Rattle.cli_jobs.specs.declared.refusal.Refusal.{Refusal}
use Rattle.cli_jobs.specs.declared.refusal.Refusal.TheVariants.{NoMemory}
use Rattle.cli_jobs.specs.Unfetched.{has_fetches, unready}
use Rattle.config_fetch.specs.Fetches.{Devices, Fetches, FetchedConfig, devices}

-- an outfit, an input, and where prompts are written
pub record World (O I E : Type 0) : Type 0 where
  pub outfit : O
  pub input : I
  pub err : E

abbrev pub world : {O I E : Type 0} → O → I → E → World O I E
world outfit input err = record { outfit = outfit; input = input; err = err }

-- no child was run, nothing was read and nothing written
pub record IsStill {O I E : Type 0} (children : O → Children) (s t : World O I E) : Type 0 where
  pub same_children : children t.outfit ≡ children s.outfit
  pub same_input : t.input ≡ s.input
  pub same_err : t.err ≡ s.err

-- a child was handed out and came back
pub record ChildBack (old new : Children) (child : Child) : Type 0 where
  pub kind : new.kind ≡ old.kind
  pub out : new.out ≡ old.out
  pub back : new.back ≡ old.back ++ child ∷ []

-- the texts were fetched by one child, which was handed out and taken back
pub record FetchedIn {O C I E : Type 0} (children : O → Children) (tells_child : O → Type 0) (child_of : C → Child) (child_tells : C → Type 0) (Does : Fetches (Devices C I E)) (names : List Name) (s t : World O I E) (config : Config) (filled : Result Config Refusal) : Type 0 where
  pub before : C
  pub after : C
  pub opened : child_of before ≡ (children s.outfit).kind
  pub told : tells_child s.outfit → child_tells before
  pub fetched : FetchedConfig Does names (devices before s.input s.err) (devices after t.input t.err) config filled
  pub back : ChildBack (children s.outfit) (children t.outfit) (child_of after)

-- so with any answer, or memory ran out before the child was handed out
abbrev pub FetchedOrNot : {W : Type 0} → (W → W → Type 0) → (W → W → Config → Result Config Refusal → Type 0) → W → W → Config → Result Config Refusal → Type 0
FetchedOrNot IsStill Fetched s t config (Ok filled) = Fetched s t config (Ok filled)
FetchedOrNot IsStill Fetched s t config (Err r) = Fetched s t config (Err r) ⊎ ((r ≡ NoMemory) × IsStill s t)

-- nothing is fetched where something can be refused before
abbrev pub FillsUnless : {O C I E : Type 0} → (O → Children) → (O → Type 0) → (C → Child) → (C → Type 0) → Fetches (Devices C I E) → List Name → Option Refusal → World O I E → World O I E → Config → Result Config Refusal → Type 0
FillsUnless children tells_child child_of child_tells Does names (Some r) s t config filled = IsStill children s t × (filled ≡ Err r)
FillsUnless children tells_child child_of child_tells Does names None s t config filled = FetchedIn children tells_child child_of child_tells Does names s t config filled

-- a configuration without texts to fetch stays as it is
abbrev pub FillsIf : {O C I E : Type 0} → (O → Children) → (O → Type 0) → (C → Child) → (C → Type 0) → Fetches (Devices C I E) → List Name → Option Refusal → Bool → World O I E → World O I E → Config → Result Config Refusal → Type 0
FillsIf children tells_child child_of child_tells Does names refused false s t config filled = IsStill children s t × (filled ≡ Ok config)
FillsIf children tells_child child_of child_tells Does names refused true s t config filled = FillsUnless children tells_child child_of child_tells Does names refused s t config filled

-- the configuration with all its texts, or the first refusal
abbrev pub Fills : {O C I E : Type 0} → (O → Children) → (O → Type 0) → (C → Child) → (C → Type 0) → Fetches (Devices C I E) → List Name → Option (List ℕ) → World O I E → World O I E → Config → Result Config Refusal → Type 0
Fills children tells_child child_of child_tells Does names home s t config filled =
    FillsIf children tells_child child_of child_tells Does names (unready names home config) (has_fetches names config) s t config filled

-- and memory may run out before anything is fetched
abbrev pub FillsOrStarves : {O C I E : Type 0} → (O → Children) → (O → Type 0) → (C → Child) → (C → Type 0) → Fetches (Devices C I E) → List Name → Option (List ℕ) → World O I E → World O I E → Config → Result Config Refusal → Type 0
FillsOrStarves children tells_child child_of child_tells Does names home s t config filled =
    FetchedOrNot (IsStill children) (Fills children tells_child child_of child_tells Does names home) s t config filled
