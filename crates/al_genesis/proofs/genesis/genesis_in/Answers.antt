use Rattle.al_genesis.proofs.Meaning.{record_of, refused_means}
use Rattle.al_genesis.proofs.genesis.genesis_in.Goals as goal

pub returns-in_ok-genesis_of-in-Ok-check_fields : goal.returns-in_ok-genesis_of-in-Ok-check_fields
returns-in_ok-genesis_of-in-Ok-check_fields c = record {
  fields = c.in-Ok.fields;
  is = record_of c.args.input.now c.args.v.now c.in-Ok.fields c.requires.spells c.in-Ok.ensures;
  good = c.in-Ok-check_fields.ensures;
  says = c.in_ok-genesis_of-in-Ok-check_fields.ensures;
}

pub returns-in-Err : goal.returns-in-Err
returns-in-Err c = refused_means c.args.input.now c.in-Ok.fields c.in-Err.fault (record_of c.args.input.now c.args.v.now c.in-Ok.fields c.requires.spells c.in-Ok.ensures) c.in-Err.ensures
