use Rattle.mc_text.proofs.FormLaws as laws
use Rattle.mc_text.proofs.laws.lines_mean.Goals as goal

pub returns : goal.returns
returns c = record {
  no_word = laws.no_word_says;
  unknown = laws.unknown_says;
  storage_words = laws.storage_bad_words;
  storage_field = laws.storage_bad_field;
  storage_size = laws.storage_too_large;
  storage = laws.storage_is;
  cas_words = laws.cas_bad_words;
  cas_field = laws.cas_bad_field;
  cas_unique = laws.cas_bad_unique;
  cas_size = laws.cas_too_large;
  cas = laws.cas_is;
  get_words = laws.get_bad_words;
  get_keys = laws.get_bad_key;
  get = laws.get_is;
  gat_words = laws.gat_bad_words;
  gat_keys = laws.gat_bad_key;
  gat_exptime = laws.gat_bad_exptime;
  gat = laws.gat_is;
  touch_words = laws.touch_bad_words;
  touch_key = laws.touch_bad_key;
  touch_exptime = laws.touch_bad_exptime;
  touch = laws.touch_is;
  delete_words = laws.delete_bad_words;
  delete_zero = laws.delete_other_word;
  delete_key = laws.delete_bad_key;
  delete = laws.delete_is;
  flush_words = laws.flush_bad_words;
  flush_zero = laws.flush_other_word;
  flush = laws.flush_is;
  version_words = laws.version_bad_words;
  version = laws.version_is;
  verbosity_words = laws.verbosity_bad_words;
  verbosity_number = laws.verbosity_bad_number;
  verbosity = laws.verbosity_is;
  quit_words = laws.quit_bad_words;
  quit = laws.quit_is;
}
