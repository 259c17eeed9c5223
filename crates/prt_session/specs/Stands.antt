-- What a value may represent, read backwards: if one of two states may be stored, each of them has to be explained.

-- each state that it may represent is explained by one that it may have represented before
abbrev pub Explained : {X D : Type 0} → (X → D → Type 0) → X → X → (D → D → Type 0) → Type 0
Explained {X} {D} stands old new Leads = (after : D) → stands new after → (before : D) × stands old before × Leads before after

-- there is a state that it may represent
abbrev pub StandsForSome : {X D : Type 0} → (X → D → Type 0) → X → Type 0
StandsForSome {X} {D} stands value = (state : D) × stands value state
