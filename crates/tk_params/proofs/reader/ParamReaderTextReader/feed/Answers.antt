use Rattle.tk_params.proofs.ReaderBytes.{read_taken}
use Rattle.tk_params.proofs.reader.ParamReaderTextReader.feed.Goals as goal

pub returns : goal.returns
returns c = λ before waits.
    read_taken c.feed_byte.new.self before c.args.bytes.now c.feed_byte.result c.requires.some
    (c.feed_byte.ensures before waits.fed)
