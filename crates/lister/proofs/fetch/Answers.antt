-- `fetch` meets its contract: what is in hand was moved, and stands where it stood.
use Rattle.lister.proofs.ReadingLaws.{fetched_moved}
use Rattle.lister.proofs.fetch.Goals as goal

pub returns-then-room-to-lt-LARGEST : goal.returns-then-room-to-lt-LARGEST
returns-then-room-to-lt-LARGEST g c =
    fetched_moved c.args.room.now c.args.from c.args.to c.requires.0 c.requires.1.0 c.copy_within.ensures.after c.read_behind.ensures
