-- A DAV site as plain data: what it holds, what has happened to it, and how often it refused (this project's own).
use Rattle.std.specs.Prelude.{ℕ, ◌+◌, Bool, true, false, List, [], ◌∷◌, ◌++◌, Option, Some, None}
use Rattle.std.specs.Ordering.{nat_cmp}
use Rattle.std.specs.Cmp.Lexicographic.{slice_cmp}
use Rattle.std.specs.FinMap as fin
use Rattle.store_model.specs.declared.event.Held.{Held}
use Rattle.store_model.specs.Sides.{Content, put_held}

-- what happens to a site
pub data SiteEvent : Type 0 where
  -- an edit from outside: what stood at the path, and what stands there now
  Edited : List ℕ → Option Held → Option Held → SiteEvent
  -- the collection below the site came to be there or went, by an edit from outside
  Foldered : List ℕ → Bool → SiteEvent
  -- the property became this or went, by an edit from outside
  Named : List ℕ → Option (List ℕ) → SiteEvent
  -- a write by a request: what stood at the path, what stands there now, and the text that was sent (none: a removal)
  Wrote : List ℕ → Option Held → Option Held → Option (List ℕ) → SiteEvent
  -- the property was set or removed by a request
  SetName : List ℕ → Option (List ℕ) → SiteEvent
  -- a reply told this text of the path
  Read : List ℕ → List ℕ → SiteEvent
  -- a request was refused. It stands in no trail: the count of refusals rises
  Refused : SiteEvent

-- texts under names, and the paths of the collections below, each over no bytes
abbrev pub Names : Type 0
Names = fin.FinMap (slice_cmp nat_cmp) (List ℕ)

abbrev pub put_name : Names → List ℕ → Option (List ℕ) → Names
put_name names name (Some value) = fin.insert names name value
put_name names name None = fin.remove names name

abbrev pub put_folder : Names → List ℕ → Bool → Names
put_folder folders path true = fin.insert folders path []
put_folder folders path false = fin.remove folders path

pub record SiteState : Type 0 where
  pub resources : Content
  pub folders : Names
  pub properties : Names
  -- all that has happened but refusals, the first of it first
  pub trail : List SiteEvent
  pub refusals : ℕ

abbrev pub resources_after : Content → SiteEvent → Content
resources_after c (Edited path old new) = put_held c path new
resources_after c (Foldered path is_there) = c
resources_after c (Named name new) = c
resources_after c (Wrote path old new sent) = put_held c path new
resources_after c (SetName name new) = c
resources_after c (Read path text) = c
resources_after c Refused = c

abbrev pub folders_after : Names → SiteEvent → Names
folders_after f (Edited path old new) = f
folders_after f (Foldered path is_there) = put_folder f path is_there
folders_after f (Named name new) = f
folders_after f (Wrote path old new sent) = f
folders_after f (SetName name new) = f
folders_after f (Read path text) = f
folders_after f Refused = f

abbrev pub properties_after : Names → SiteEvent → Names
properties_after p (Edited path old new) = p
properties_after p (Foldered path is_there) = p
properties_after p (Named name new) = put_name p name new
properties_after p (Wrote path old new sent) = p
properties_after p (SetName name new) = put_name p name new
properties_after p (Read path text) = p
properties_after p Refused = p

-- what an event leaves in the trail
abbrev pub traced : SiteEvent → List SiteEvent
traced (Edited path old new) = Edited path old new ∷ []
traced (Foldered path is_there) = Foldered path is_there ∷ []
traced (Named name new) = Named name new ∷ []
traced (Wrote path old new sent) = Wrote path old new sent ∷ []
traced (SetName name new) = SetName name new ∷ []
traced (Read path text) = Read path text ∷ []
traced Refused = []

abbrev pub refusals_after : ℕ → SiteEvent → ℕ
refusals_after n (Edited path old new) = n
refusals_after n (Foldered path is_there) = n
refusals_after n (Named name new) = n
refusals_after n (Wrote path old new sent) = n
refusals_after n (SetName name new) = n
refusals_after n (Read path text) = n
refusals_after n Refused = n + 1

-- what an event changes
abbrev pub happens : SiteState → SiteEvent → SiteState
happens s e = record {
  resources = resources_after s.resources e;
  folders = folders_after s.folders e;
  properties = properties_after s.properties e;
  trail = s.trail ++ traced e;
  refusals = refusals_after s.refusals e;
}

-- the site that a wire shows which tells nothing of it
abbrev pub no_site : SiteState
no_site = record { resources = fin.empty; folders = fin.empty; properties = fin.empty; trail = []; refusals = 0 }
