-- What stands behind an opcode.
pub data Form : Type 0 where
  -- nothing
  Bare : Form
  -- one byte
  Byte : Form
  -- two bytes
  Unit : Form
  -- four bytes
  Word : Form
  -- four bytes: 1, 2 or 4
  Size : Form
  -- four bytes: 0 to 32
  Count : Form
  -- four bytes: 0 to 32, and that many units of two bytes
  Units : Form
