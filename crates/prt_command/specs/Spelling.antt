-- What the words of a verb express: a request, or a first fault.
use Rattle.std.specs.Prelude.{◌≡◌, List, Ok, Err}
use Rattle.prt_addr.specs.Word.{Word}
use Rattle.prt_refusals.specs.declared.refusal.Refusal.{Refusal}
use Rattle.prt_command.specs.Grammar.{FirstFault, Good, put_all}
use Rattle.prt_command.specs.Items.{no_items}
use Rattle.prt_command.specs.Reading.{Meaning}
use Rattle.prt_command.specs.declared.item.Item.{Item}
use Rattle.prt_command.specs.declared.request.Request.{Request}

-- The words are whole items of the verb, each at most once, which together ask for this.
pub record Spells (verb : Meaning) (ws : List Word) (request : Request) : Type 0 where
  pub taken : List Item
  pub good : Good verb.line no_items ws taken
  pub asks : verb.asks (put_all taken no_items) ≡ Ok request

-- The first fault: of the item after the longest run of good items, or, if all words are good, of what the items say together.
pub data HasFault (verb : Meaning) (ws : List Word) (fault : Refusal) : Type 0 where
  of_item : FirstFault verb.line no_items ws fault → HasFault verb ws fault
  of_items : (taken : List Item) → Good verb.line no_items ws taken → verb.asks (put_all taken no_items) ≡ Err fault → HasFault verb ws fault
