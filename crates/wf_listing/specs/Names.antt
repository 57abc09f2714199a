-- The names of the instructions (JVMS 7).
use Rattle.std.specs.Prelude.{ℕ, List, ◌++◌, codes}

-- The names in the order of their opcodes, from 00 to c9, divided by one space: ten opcodes in each line.
unfoldable pub instruction_names : List ℕ
instruction_names =
    codes "nop aconst_null iconst_m1 iconst_0 iconst_1 iconst_2 iconst_3 iconst_4 iconst_5 lconst_0 "
    ++ codes "lconst_1 fconst_0 fconst_1 fconst_2 dconst_0 dconst_1 bipush sipush ldc ldc_w "
    ++ codes "ldc2_w iload lload fload dload aload iload_0 iload_1 iload_2 iload_3 "
    ++ codes "lload_0 lload_1 lload_2 lload_3 fload_0 fload_1 fload_2 fload_3 dload_0 dload_1 "
    ++ codes "dload_2 dload_3 aload_0 aload_1 aload_2 aload_3 iaload laload faload daload "
    ++ codes "aaload baload caload saload istore lstore fstore dstore astore istore_0 "
    ++ codes "istore_1 istore_2 istore_3 lstore_0 lstore_1 lstore_2 lstore_3 fstore_0 fstore_1 fstore_2 "
    ++ codes "fstore_3 dstore_0 dstore_1 dstore_2 dstore_3 astore_0 astore_1 astore_2 astore_3 iastore "
    ++ codes "lastore fastore dastore aastore bastore castore sastore pop pop2 dup "
    ++ codes "dup_x1 dup_x2 dup2 dup2_x1 dup2_x2 swap iadd ladd fadd dadd "
    ++ codes "isub lsub fsub dsub imul lmul fmul dmul idiv ldiv "
    ++ codes "fdiv ddiv irem lrem frem drem ineg lneg fneg dneg "
    ++ codes "ishl lshl ishr lshr iushr lushr iand land ior lor "
    ++ codes "ixor lxor iinc i2l i2f i2d l2i l2f l2d f2i "
    ++ codes "f2l f2d d2i d2l d2f i2b i2c i2s lcmp fcmpl "
    ++ codes "fcmpg dcmpl dcmpg ifeq ifne iflt ifge ifgt ifle if_icmpeq "
    ++ codes "if_icmpne if_icmplt if_icmpge if_icmpgt if_icmple if_acmpeq if_acmpne goto jsr ret "
    ++ codes "tableswitch lookupswitch ireturn lreturn freturn dreturn areturn return getstatic putstatic "
    ++ codes "getfield putfield invokevirtual invokespecial invokestatic invokeinterface invokedynamic new newarray anewarray "
    ++ codes "arraylength athrow checkcast instanceof monitorenter monitorexit wide multianewarray ifnull ifnonnull "
    ++ codes "goto_w jsr_w"
